-- "For every input each public function's contract determines the reply and every lent byte afterwards": said of a contract as Rattle made it
-- of the source, its `Reads.Learnt` and `Reads.Asked`, for a function of n lifetimes, parameters ps and result r.
use Rattle.std.specs.Prelude.{ℕ, List, ◌≡◌}
use contract.Lifetimes.{Lfts}
use denote.Triple.Clauses.{Lasts, at_exit}
use borrow.Fn.Kinds.{ParamKind, ResultKind, In, Out, Dens, res_t, ended_of}

-- two outcomes that the contract allows at the same arguments are one: the same reply, and the same last value of whatever was lent
abbrev pub Fixes : (n : ℕ) (ps : List (ParamKind n)) (r : ResultKind n) → Out n ps r → Type 0
Fixes n ps r allows =
    (κs : Lfts n) (a : Dens κs ps) (z z' : (res_t r κs).Denot) (w w' : Lasts (ended_of n ps r) κs a)
    → allows κs a z (at_exit (ended_of n ps r) κs a w) → allows κs a z' (at_exit (ended_of n ps r) κs a w') → (z ≡ z') × (w ≡ w')

-- every caller may call
abbrev pub AsksNothing : (n : ℕ) (ps : List (ParamKind n)) → In n ps → Type 0
AsksNothing n ps asks = (κs : Lfts n) (a : Dens κs ps) → asks κs a
