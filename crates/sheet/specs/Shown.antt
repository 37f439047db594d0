-- "Each public function's contract determines the reply": said of a function that lends a list. Where the list lies is not fixed, what it holds is.
use Rattle.std.specs.Prelude.{ℕ, List, ◌≡◌}
use contract.Lifetimes.{Lfts}
use denote.Triple.Clauses.{Lasts, at_exit}
use borrow.Fn.Kinds.{ParamKind, ResultKind, Out, Dens, res_t, ended_of}

-- two outcomes that the contract allows at the same arguments show the same: `holds` is what the reply holds
abbrev pub FixesShown : {X : Type 0} (n : ℕ) (ps : List (ParamKind n)) (r : ResultKind n) → ((κs : Lfts n) → (res_t r κs).Denot → X) → Out n ps r → Type 0
FixesShown n ps r holds allows =
    (κs : Lfts n) (a : Dens κs ps) (z z' : (res_t r κs).Denot) (w w' : Lasts (ended_of n ps r) κs a)
    → allows κs a z (at_exit (ended_of n ps r) κs a w) → allows κs a z' (at_exit (ended_of n ps r) κs a w') → (holds κs z ≡ holds κs z') × (w ≡ w')
