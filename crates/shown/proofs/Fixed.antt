-- The contract of each public function of the crate fixes the reply and asks nothing: it is an equation with a definition, or says when the reply is true.
-- Assumes nothing.
use mathlib.Core.Bool.{Bool, true, false}
use mathlib.Core.List.{[], ne-nil_of_mem}
use mathlib.Core.Path.{sym, ◌∙◌, ◌≡◌, refl}
use denote.RattleType.{RattleType}
use denote.Param.Laws.{Laws, IsCopy}
use mir.Syntax.{Dict}
use Rattle.std.specs.declared.clone.Clone.{Ghosts as Cloned}
use Rattle.std.specs.declared.cmp.PartialEq.{Ghosts as Tested}
use Rattle.units.specs.Fixed.{Fixes, AsksNothing}
use Rattle.shown.proofs.of.Kinds as of_kinds
use Rattle.shown.proofs.of.Reads as of_reads
use Rattle.shown.proofs.unchanged.Kinds as unchanged_kinds
use Rattle.shown.proofs.unchanged.Reads as unchanged_reads
use Rattle.shown.proofs.same.Kinds as same_kinds
use Rattle.shown.proofs.same.Reads as same_reads

pub of_fixed : Fixes 0 of_kinds.ps of_kinds.r of_reads.Learnt
of_fixed κs a z z' w w' p q = (p ∙ sym q, refl)

pub of_open : AsksNothing 0 of_kinds.ps of_reads.Asked
of_open κs a = tt

-- two replies that are true in the same case are one
one_reply : {P : Type 0} (x y : Bool) → (x ≡ true → P) → (P → x ≡ true) → (y ≡ true → P) → (P → y ≡ true) → x ≡ y
one_reply true y f f' g g' = sym (g' (f refl))
one_reply false true f f' g g' = f' (g refl)
one_reply false false f f' g g' = refl

pub unchanged_fixed : Fixes 0 unchanged_kinds.ps unchanged_kinds.r unchanged_reads.Learnt
unchanged_fixed κs a z z' w w' p q = (one_reply z z' p.0 p.1 q.0 q.1, refl)

pub unchanged_open : AsksNothing 0 unchanged_kinds.ps unchanged_reads.Asked
unchanged_open κs a = tt

-- whatever the stages and the walkers are, and whatever tests them
module _ (S W : RattleType) (LS : Laws S) (LW : Laws W) (CS : IsCopy S) (CW : IsCopy W) (cs : Cloned S.Denot) (cd : Dict) (es : Tested S.Denot) (ed : Dict) (cw : Cloned W.Denot) (cd' : Dict) (ew : Tested W.Denot) (ed' : Dict) where
  pub same_fixed : Fixes 2 (same_kinds.ps S W LS LW CS CW) (same_kinds.r S W LS LW CS CW) (same_reads.Learnt S W LS LW CS CW cs cd es ed cw cd' ew ed')
  same_fixed κs a z z' w w' p q = (p ∙ sym q, refl)

  pub same_open : S.lives ≡ [] → W.lives ≡ [] → AsksNothing 2 (same_kinds.ps S W LS LW CS CW) (same_reads.Asked S W LS LW CS CW cs cd es ed cw cd' ew ed')
  same_open s w κs a = (λ l m. absurd (ne-nil_of_mem m s), λ l m. absurd (ne-nil_of_mem m w))
