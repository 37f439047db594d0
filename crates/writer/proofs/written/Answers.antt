-- `writer::written` meets its contract: refused by the values, for want of room, or written. Assumes nothing.
use mathlib.Core.Path.{◌≡◌, refl, sym, ◌∙◌}
use mathlib.Core.Bool.{true, false}
use Rattle.std.proofs.lemmas.Result.{err_from_is_err_and}
use Rattle.sheet.proofs.Answers.{passes}
use Rattle.sheet.specs.Refusals.{is_fine}
use Rattle.text.proofs.Pieces.{write_refused, write_long, write_done}
use Rattle.writer.proofs.Room.{refused_by}
use Rattle.writer.proofs.written.Goals as goal

pub returns-in_err-accept : goal.returns-in_err-accept
returns-in_err-accept c =
    let p = err_from_is_err_and c.from_residual.result c.from_residual.ensures.1 in
    let bad : is_fine c.accept.result ≡ false = rw c.in_err-accept.was refl in
    let r = write_refused c.args.sheet c.args.out.now c.accept.result c.accept.ensures bad in
    (rw (p.1, p.2) (rw c.in_err-accept.was at r.0), r.1)

pub returns-in_err-refuse_unless : goal.returns-in_err-refuse_unless
returns-in_err-refuse_unless c =
    let p = err_from_is_err_and c.from_residual-in_err-refuse_unless.result c.from_residual-in_err-refuse_unless.ensures.1 in
    let fine : is_fine c.accept.result ≡ true = rw c.in_ok-accept.was refl in
    let h = refused_by c.has_room.result _ _ _ (sym c.refuse_unless.ensures ∙ c.in_err-refuse_unless.was) in
    let r = write_long c.args.sheet c.args.out.now c.accept.result c.accept.ensures c.flat-numbers.result c.flat-numbers.ensures fine (sym c.has_room.ensures.0 ∙ h.0) in
    (rw (p.1, p.2) (rw h.1 at r.0), c.has_room.ensures.1 ∙ r.1)

pub returns : goal.returns
returns c =
    let fine : is_fine c.accept.result ≡ true = rw c.in_ok-accept.was refl in
    let h = passes c.has_room.result _ _ (sym c.refuse_unless.ensures ∙ c.in_ok-refuse_unless.was) in
    write_done c.args.sheet c.args.out.now c.accept.result c.accept.ensures c.flat-numbers.result c.flat-numbers.ensures fine (sym c.has_room.ensures.0 ∙ h) (rw c.has_room.ensures.1 at c.put_lines.ensures)
