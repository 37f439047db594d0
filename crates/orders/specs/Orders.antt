-- The ticks of a run as lines: "`tick=CALL`", "`tick=CALL,NEXT`" and "`ticks=CALL,COUNT`". A place is an index of the text.
use Rattle.std.specs.Prelude.{ℕ, List, [], ◌∷◌, Bool, false, Option, Some, None, Result, Ok, Err, leb, eqb}
use Rattle.units.specs.Numbers.{pick}
use Rattle.figures.specs.declared.Figure.{Figure}
use Rattle.figures.specs.Figures.{is, after_at, number_at, on_place, on_figure}
use Rattle.stage.specs.declared.Command.TheVariants as commands
use Rattle.stage.specs.declared.Command.{Command}
use Rattle.orders.specs.declared.Malformed.{Malformed}
use Rattle.orders.specs.declared.Order.{Order}
use Rattle.orders.specs.declared.Two.{Two}

-- a number from the least to the most after a word
unfoldable pub value_at : List ℕ → ℕ → List ℕ → ℕ → ℕ → Option Figure
value_at s at w least most =
    on_place (after_at s at w) (λ p. on_figure (number_at s p) (λ v q. pick (leb least v) (pick (leb v most) (is v q) None) None) None) None

-- the bytes of `tick=`, `ticks=`, `,` and the end of a line
abbrev pub tick_word : List ℕ
tick_word = 116 ∷ 105 ∷ 99 ∷ 107 ∷ 61 ∷ []

abbrev pub ticks_word : List ℕ
ticks_word = 116 ∷ 105 ∷ 99 ∷ 107 ∷ 115 ∷ 61 ∷ []

abbrev pub comma : List ℕ
comma = 44 ∷ []

abbrev pub newline : List ℕ
newline = 10 ∷ []

-- "CALL" is 0 or 1
abbrev pub call_at : List ℕ → ℕ → List ℕ → Option Figure
call_at s at w = value_at s at w 0 1

abbrev pub two : ℕ → ℕ → ℕ → Option Two
two c v p = Some (record { call = eqb c 1; value = v; next = p })

unfoldable pub two_at : List ℕ → ℕ → List ℕ → ℕ → ℕ → Option Two
two_at s at w least most =
    on_figure (call_at s at w) (λ c p. on_figure (value_at s p comma least most) (λ v q. on_place (after_at s q newline) (λ t. two c v t) None) None) None

abbrev pub order : Command → Bool → ℕ → ℕ → Result Order Malformed
order command call count p = Ok (record { command = command; call = call; count = count; next = p })

-- a line that is none of these, with its call, off where it has none
abbrev pub malformed : Bool → Result Order Malformed
malformed call = Err (record { call = call })

abbrev pub on_two : Option Two → (Two → Result Order Malformed) → Result Order Malformed → Result Order Malformed
on_two (Some t) f d = f t
on_two None f d = d

-- `tick=CALL`
unfoldable pub alone_at : List ℕ → ℕ → Result Order Malformed
alone_at s at =
    on_figure (call_at s at tick_word) (λ c p. on_place (after_at s p newline) (λ t. order commands.None (eqb c 1) 1 t) (malformed (eqb c 1))) (malformed false)

-- `ticks=CALL,COUNT`, else `tick=CALL,NEXT`, else `tick=CALL`. COUNT is at least 1; NEXT is a phase's number or 0
unfoldable pub order_at : List ℕ → ℕ → Result Order Malformed
order_at s at =
    on_two (two_at s at ticks_word 1 999999) (λ t. order commands.None t.call t.value t.next)
    (on_two (two_at s at tick_word 0 255) (λ t. order (commands.End t.value) t.call 1 t.next) (alone_at s at))
