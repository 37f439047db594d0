-- Reading a number or a word is inverse to writing it, digit by digit and letter by letter. Assumes nothing.
use Prim.Native.Nat.{ℕ, zero, suc, ◌+◌, ◌*◌, ◌/◌, ◌%◌, ◌≤◌, ◌<◌}
use mathlib.Core.Path.{◌≡◌, refl, sym, ap, ◌∙◌}
use mathlib.Core.List.{List, [], ◌∷◌, ◌++◌, append_assoc, append-nil}
use native.Mathlib.Omega.{arith}
use lib.ListN.{length, drop, length-append}
use lib.Dec.{ltb, eqb}
use borrow.Author.Tests.{le-ltb, lt-ltb, eq-eqb, ltb-true, ltb-false, eqb-true}
use Rattle.std.specs.Prelude.{Some, None}
use Rattle.units.specs.Numbers.{pick}
use Rattle.units.proofs.Steps.{split}
use Rattle.figures.specs.Figures.{is, digit_of, more, number, after, number_at, after_at}
use Rattle.figures.proofs.Small.{bad_is, same_value, same_next}
use Rattle.text.specs.Digits.{digits_in, digits}
use Rattle.text.proofs.Decimals.{ten, digits_more}
use Rattle.trips.proofs.Cuts.{Begins, Cut, cut}

-- ---- a digit's byte and its value

digit_byte : (b : ℕ) → digit_of b ≤ 9 → 48 + digit_of b ≡ b
unfolding digit_of pick
digit_byte b h =
    split (ltb b 48)
    (λ e. absurd (let h' : 10 ≤ 9 = rw e at h in omega arith))
    (λ e. split (ltb 57 b)
    (λ e'. absurd (let h' : 10 ≤ 9 = rw (e, e') at h in omega arith))
    (λ e'. rw (e, e') (omega (arith, ltb-false b 48 e))))

byte_digit : (d : ℕ) → d < 10 → digit_of (48 + d) ≡ d
unfolding digit_of pick
byte_digit d h = rw (le-ltb (48 + d) 48 (omega arith), le-ltb 57 (48 + d) (omega arith)) (omega arith)

-- ---- a number that was read: its digits stood there

record Back (l : List ℕ) (w at v q : ℕ) : Type 0 where
  m : List ℕ
  begins : Begins l at q m
  text : digits v ≡ digits w ++ m

more_back : (l : List ℕ) (w at v q : ℕ) → w < 1000000 → more w at l ≡ is v q → Back l w at v q
unfolding more pick
more_back [] w at v q h e =
    let ew : w ≡ v = same_value e in
    let eq : at ≡ q = same_next e in
    record { m = []; begins = record { rest = []; split = refl; place = omega arith }; text = rw (← ew) (sym (append-nil (digits w))) }
more_back (b ∷ l) w at v q h e =
    split (ltb 9 (digit_of b))
    (λ t.
    let e' : is w at ≡ is v q = rw t at e in
    let ew : w ≡ v = same_value e' in
    let eq : at ≡ q = same_next e' in
    record { m = []; begins = record { rest = b ∷ l; split = refl; place = omega arith }; text = rw (← ew) (sym (append-nil (digits w))) })
    (λ t. split (ltb w 1)
    (λ t₁. bad_is (rw (t, t₁) at e))
    (λ t₁. split (ltb 99999 w)
    (λ t₂. bad_is (rw (t, t₁, t₂) at e))
    (λ t₂.
    let e' : more (w * 10 + digit_of b) (at + 1) l ≡ is v q = rw (t, t₁, t₂) at e in
    let hd : digit_of b ≤ 9 = ltb-false 9 (digit_of b) t in
    let h₁ : 1 ≤ w = ltb-false w 1 t₁ in
    let h₂ : w ≤ 99999 = ltb-false 99999 w t₂ in
    let r = more_back l (w * 10 + digit_of b) (at + 1) v q (omega arith) e' in
    let eb : 48 + digit_of b ≡ b = digit_byte b hd in
    record {
      m = b ∷ r.m;
      begins = record { rest = r.begins.rest; split = ap (λ (x : List ℕ). b ∷ x) r.begins.split; place = omega (arith, r.begins.place) };
      text = r.text ∙ rw (digits_more w (digit_of b) h₁ (omega arith) (omega arith), eb) (append_assoc (digits w) (b ∷ []) r.m);
    })))

first : (d b : ℕ) (m : List ℕ) → d < 10 → 48 + d ≡ b → digits d ++ m ≡ b ∷ m
unfolding digits_in pick
first d b m h e = rw (lt-ltb d 10 h, e)

number_begins : (l : List ℕ) (at v q : ℕ) → number at l ≡ is v q → Begins l at q (digits v)
unfolding number pick
number_begins [] at v q e = bad_is e
number_begins (b ∷ l) at v q e =
    split (ltb 9 (digit_of b))
    (λ t. bad_is (rw t at e))
    (λ t.
    let e' : more (digit_of b) (at + 1) l ≡ is v q = rw t at e in
    let hd : digit_of b ≤ 9 = ltb-false 9 (digit_of b) t in
    let r = more_back l (digit_of b) (at + 1) v q (omega arith) e' in
    let ed : digits v ≡ b ∷ r.m = r.text ∙ first (digit_of b) b r.m (omega arith) (digit_byte b hd) in
    record { rest = r.begins.rest; split = rw ed (ap (λ (x : List ℕ). b ∷ x) r.begins.split); place = rw ed (omega (arith, r.begins.place)) })

pub number_back : (s : List ℕ) (at v q : ℕ) → number_at s at ≡ is v q → Cut s at q (digits v)
number_back s at v q e = cut s at q (digits v) (number_begins (drop at s) at v q e)

-- ---- the digits of a number are read back

step : (v d at : ℕ) (l : List ℕ) → 1 ≤ v → v ≤ 99999 → d < 10 → more v at ((48 + d) ∷ l) ≡ more (v * 10 + d) (at + 1) l
unfolding more pick
step v d at l h k e = rw (byte_digit d e, le-ltb 9 d (omega arith), le-ltb v 1 h, le-ltb 99999 v k)

number_on : (f n at : ℕ) (l : List ℕ) → n < ten f → n < 1000000 → number at (digits_in f n ++ l) ≡ more n (at + length (digits_in f n)) l
unfolding digits_in number pick
number_on zero n at l h k = rw (byte_digit n h, le-ltb 9 n (omega arith))
number_on (suc f) n at l h k =
    split (ltb n 10)
    (λ t. let hn : n < 10 = ltb-true n 10 t in rw (t, byte_digit n hn, le-ltb 9 n (omega arith)))
    (λ t.
    let hn : 10 ≤ n = ltb-false n 10 t in
    rw t (rw (append_assoc (digits_in f (n / 10)) ((48 + n % 10) ∷ []) l)
    (number_on f (n / 10) at ((48 + n % 10) ∷ l) (omega arith) (omega arith)
    ∙ step (n / 10) (n % 10) (at + length (digits_in f (n / 10))) l (omega arith) (omega arith) (omega arith)
    ∙ rw (length-append (digits_in f (n / 10)) ((48 + n % 10) ∷ []))
    (let en : n / 10 * 10 + n % 10 ≡ n = omega arith in
    let ep : at + length (digits_in f (n / 10)) + 1 ≡ at + (length (digits_in f (n / 10)) + 1) = omega arith in
    rw (en, ep)))))

-- a byte that is no digit stops a number
stops : (v at c : ℕ) (l : List ℕ) → 9 < digit_of c → more v at (c ∷ l) ≡ is v at
unfolding more pick
stops v at c l h = rw (lt-ltb 9 (digit_of c) h)

pub number_read : (s : List ℕ) (at n c : ℕ) (l : List ℕ) → n < 1000000 → 9 < digit_of c → drop at s ≡ digits n ++ c ∷ l
    → number_at s at ≡ is n (at + length (digits n))
number_read s at n c l h k e = rw e (number_on 5 n at (c ∷ l) h h ∙ stops n (at + length (digits n)) c l k)

-- ---- words

nowhere_at : {q : ℕ} → None ≡ Some q → ⊥
nowhere_at e = let z : ◌≡◌ {A = ℕ} 0 1 = cc in omega arith

after_begins : (w l : List ℕ) (at q : ℕ) → after at w l ≡ Some q → Begins l at q w
unfolding after pick
after_begins [] l at q e = let eq : at ≡ q = cc in record { rest = l; split = refl; place = omega arith }
after_begins (c ∷ w) [] at q e = absurd (nowhere_at e)
after_begins (c ∷ w) (b ∷ l) at q e =
    split (eqb b c)
    (λ t.
    let r = after_begins w l (at + 1) q (rw t at e) in
    record { rest = r.rest; split = rw (eqb-true b c t) (ap (λ (x : List ℕ). c ∷ x) r.split); place = omega (arith, r.place) })
    (λ t. absurd (nowhere_at (rw t at e)))

pub after_back : (s : List ℕ) (at q : ℕ) (w : List ℕ) → after_at s at w ≡ Some q → Cut s at q w
after_back s at q w e = cut s at q w (after_begins w (drop at s) at q e)

after_on : (w l : List ℕ) (at : ℕ) → after at w (w ++ l) ≡ Some (at + length w)
unfolding after pick
after_on [] l at = ap Some (omega arith)
after_on (c ∷ w) l at = rw (eq-eqb c c refl) (after_on w l (at + 1) ∙ ap Some (omega arith))

pub after_read : (s : List ℕ) (at : ℕ) (w l : List ℕ) → drop at s ≡ w ++ l → after_at s at w ≡ Some (at + length w)
after_read s at w l e = rw e (after_on w l at)
