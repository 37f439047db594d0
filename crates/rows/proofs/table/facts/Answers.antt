-- `rows::facts` meets its contract: the place of a key's first number tells its row of the table. Assumes nothing.
use mathlib.Core.Path.{ap}
use Rattle.rows.specs.declared.table.Absent.{Absent}
use Rattle.rows.specs.declared.table.Absent.TheVariants.{AsBefore, AsNone}
use Rattle.rows.specs.declared.table.Key.{Key}
use Rattle.rows.proofs.Keys.{facts_at, facts_past}
use Rattle.rows.proofs.table.facts.Goals as goal

abbrev or_as : Absent → Key → Key
or_as a k = record { letters = k.letters; length = k.length; form = k.form; least = k.least; most = k.most; absent = a }

pub returns-in-0 : goal.returns-in-0
returns-in-0 c =
    facts_at c.args.row _ _ c.head.ensures c.in-0.is c.standing.ensures

pub returns-in-1 : goal.returns-in-1
returns-in-1 c =
    facts_at c.args.row _ _ c.head.ensures c.in-1.is c.standing-in-1.ensures

pub returns-in-2 : goal.returns-in-2
returns-in-2 c =
    facts_at c.args.row _ _ c.head.ensures c.in-2.is c.standing-in-2.ensures

pub returns-in-3 : goal.returns-in-3
returns-in-3 c =
    facts_at c.args.row _ _ c.head.ensures c.in-3.is (ap (or_as AsBefore) c.standing-in-3.ensures)

pub returns-in-4 : goal.returns-in-4
returns-in-4 c =
    facts_at c.args.row _ _ c.head.ensures c.in-4.is c.standing-in-4.ensures

pub returns-in-5 : goal.returns-in-5
returns-in-5 c =
    facts_at c.args.row _ _ c.head.ensures c.in-5.is c.standing-in-5.ensures

pub returns-in-6 : goal.returns-in-6
returns-in-6 c =
    facts_at c.args.row _ _ c.head.ensures c.in-6.is c.standing-in-6.ensures

pub returns-in-7 : goal.returns-in-7
returns-in-7 c =
    facts_at c.args.row _ _ c.head.ensures c.in-7.is c.standing-in-7.ensures

pub returns-in-71 : goal.returns-in-71
returns-in-71 c =
    facts_at c.args.row _ _ c.head.ensures c.in-71.is c.standing-in-71.ensures

pub returns-in-73 : goal.returns-in-73
returns-in-73 c =
    facts_at c.args.row _ _ c.head.ensures c.in-73.is (ap (or_as AsNone) c.standing-in-73.ensures)

pub returns-in-82 : goal.returns-in-82
returns-in-82 c =
    facts_at c.args.row _ _ c.head.ensures c.in-82.is c.standing-in-82.ensures

pub returns-in-83 : goal.returns-in-83
returns-in-83 c =
    facts_at c.args.row _ _ c.head.ensures c.in-83.is c.standing-in-83.ensures

pub returns-in-84 : goal.returns-in-84
returns-in-84 c =
    facts_at c.args.row _ _ c.head.ensures c.in-84.is c.standing-in-84.ensures

pub returns-in-85 : goal.returns-in-85
returns-in-85 c =
    facts_at c.args.row _ _ c.head.ensures c.in-85.is c.standing-in-85.ensures

pub returns-in-86 : goal.returns-in-86
returns-in-86 c =
    facts_at c.args.row _ _ c.head.ensures c.in-86.is c.standing-in-86.ensures

pub returns-in-87 : goal.returns-in-87
returns-in-87 c =
    facts_at c.args.row _ _ c.head.ensures c.in-87.is c.standing-in-87.ensures

pub returns-in-88 : goal.returns-in-88
returns-in-88 c =
    facts_at c.args.row _ _ c.head.ensures c.in-88.is c.standing-in-88.ensures

pub returns-in-89 : goal.returns-in-89
returns-in-89 c =
    facts_at c.args.row _ _ c.head.ensures c.in-89.is c.standing-in-89.ensures

pub returns-in-90 : goal.returns-in-90
returns-in-90 c =
    facts_at c.args.row _ _ c.head.ensures c.in-90.is c.standing-in-90.ensures

pub returns-in-91 : goal.returns-in-91
returns-in-91 c =
    facts_at c.args.row _ _ c.head.ensures c.in-91.is c.standing-in-91.ensures

pub returns-in-92 : goal.returns-in-92
returns-in-92 c =
    facts_at c.args.row _ _ c.head.ensures c.in-92.is c.standing-in-92.ensures

pub returns-in-93 : goal.returns-in-93
returns-in-93 c =
    facts_at c.args.row _ _ c.head.ensures c.in-93.is c.standing-in-93.ensures

pub returns-in-94 : goal.returns-in-94
returns-in-94 c =
    facts_at c.args.row _ _ c.head.ensures c.in-94.is c.standing-in-94.ensures

pub returns-in-95 : goal.returns-in-95
returns-in-95 c =
    facts_at c.args.row _ _ c.head.ensures c.in-95.is c.standing-in-95.ensures

pub returns-in-96 : goal.returns-in-96
returns-in-96 c =
    facts_at c.args.row _ _ c.head.ensures c.in-96.is c.standing-in-96.ensures

pub returns-in_default : goal.returns-in_default
returns-in_default c =
    facts_past c.args.row _ c.head.ensures c.in_default.in_default-own.rest c.standing-in_default.ensures
