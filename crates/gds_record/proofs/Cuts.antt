-- A record that is read is spelled there.
use Rattle.std.proofs.Common.{ℕ, suc, ◌≡◌, ◌+◌, ◌-◌, ◌*◌, ◌/◌, ◌%◌, ◌<◌, ◌≤◌, ◌==◌, ◌||◌, Bool, true, false, cond, ltb, List, ◌∷◌, ◌++◌, length, get_or, drop, slice_range, Result, Ok, Err, refl, sym, ap, subst, ◌∙◌, arith, drop-cons, inl, inr}
use Rattle.std.proofs.lemmas.Bool.{ltb-false, cases_eq, eq-eqb}
use Rattle.std.proofs.lemmas.List.{drop-drop, take-append-drop, length-drop, length-take}
use Rattle.gds_record.specs.declared.record.GdsRec.{GdsRec}
use Rattle.gds_record.specs.declared.record.RecFault.{RecFault}
use Rattle.gds_record.specs.declared.record.RecFault.TheVariants as rec
use Rattle.gds_record.specs.Records.{IsRaw, IsBytes, spelled, raw_at, size_at, record_at}

pub record Cuts (bytes : List ℕ) (at : ℕ) (r : GdsRec) : Type 0 where
  pub raw : IsRaw (raw_at bytes r)
  pub size : at + (length (raw_at bytes r).content + 4) ≡ r.next
  pub is : drop at bytes ≡ spelled (raw_at bytes r) ++ drop r.next bytes
  pub at_is : r.at ≡ at

guarded : {X : Type 0} (b : Bool) (f : RecFault) (rest : Result X RecFault) (x : X) → cond b (Err f) rest ≡ Ok x → (b ≡ false) × (rest ≡ Ok x)
guarded true f rest x e = absurd cc
guarded false f rest x e = (refl, e)

neither : (a b : Bool) → (a || b) ≡ false → (a ≡ false) × (b ≡ false)
neither true b e = absurd cc
neither false b e = (refl, e)

ok_is : (x y : GdsRec) → ◌≡◌ {A = Result GdsRec RecFault} (Ok x) (Ok y) → x ≡ y
ok_is x y e = cc

odd_not : (n : ℕ) → (n % 2 == 1) ≡ false → n % 2 ≡ 0
odd_not n e = elim (cases_eq (n % 2) 1) [
  | inl odd ↦ absurd (true_false (sym (eq-eqb _ _ odd) ∙ e))
  | inr even ↦ omega (arith, even)
]
  where
    true_false : true ≡ false → ⊥
    true_false e = absurd cc

next_cell : (bytes : List ℕ) (i j : ℕ) → j ≡ suc i → i < length bytes → drop i bytes ≡ get_or bytes i 0 ∷ drop j bytes
next_cell bytes i j e lt = rw e (drop-cons bytes i 0 lt)

cells : (bytes : List ℕ) (at : ℕ) → at + 4 ≤ length bytes → drop at bytes ≡ get_or bytes at 0 ∷ get_or bytes (at + 1) 0 ∷ get_or bytes (at + 2) 0 ∷ get_or bytes (at + 3) 0 ∷ drop (at + 4) bytes
cells bytes at le =
    let a = next_cell bytes at (at + 1) (omega arith) (omega arith) in
    let b = next_cell bytes (at + 1) (at + 2) (omega arith) (omega arith) in
    let c = next_cell bytes (at + 2) (at + 3) (omega arith) (omega arith) in
    let d = next_cell bytes (at + 3) (at + 4) (omega arith) (omega arith) in
    rw (a, b, c, d) refl

high_byte : (a b n : ℕ) → a < 256 → b < 256 → n ≡ 256 * a + b → n / 256 % 256 ≡ a
high_byte a b n x y e = omega (arith, x, y, e)

low_byte : (a b n : ℕ) → a < 256 → b < 256 → n ≡ 256 * a + b → n % 256 ≡ b
low_byte a b n x y e = omega (arith, x, y, e)

drop-drop_to : (i j : ℕ) (bytes : List ℕ) → i ≤ j → drop (j - i) (drop i bytes) ≡ drop j bytes
drop-drop_to i j bytes le = drop-drop (j - i) i bytes ∙ ap (λ (n : ℕ). drop n bytes) (omega arith)

parts : (bytes : List ℕ) (i j : ℕ) → i ≤ j → drop i bytes ≡ slice_range bytes i j ++ drop j bytes
parts bytes i j le =
    let behind : drop (j - i) (drop i bytes) ≡ drop j bytes = drop-drop_to i j bytes le in
    sym (take-append-drop (j - i) (drop i bytes)) ∙ ap (λ (t : List ℕ). slice_range bytes i j ++ t) behind

pub cuts : (bytes : List ℕ) (at : ℕ) (r : GdsRec) → IsBytes bytes → record_at bytes at ≡ Ok r → Cuts bytes at r
unfolding spelled
cuts bytes at r fits e =
    let made : GdsRec = record { at = at; code = get_or bytes (at + 2) 0; form = get_or bytes (at + 3) 0; next = at + size_at bytes at } in
    let g0 = guarded (ltb (length bytes) (at + 4)) (rec.Cut at) _ r e in
    let g1 = guarded (ltb (length bytes) (at + size_at bytes at)) (rec.Cut at) _ r g0.1 in
    let g2 = guarded (ltb (size_at bytes at) 4 || (size_at bytes at % 2 == 1)) (rec.Length at) _ r g1.1 in
    let both = neither (ltb (size_at bytes at) 4) (size_at bytes at % 2 == 1) g2.0 in
    let four : 4 ≤ size_at bytes at = ltb-false _ _ both.0 in
    let room : at + size_at bytes at ≤ length bytes = ltb-false _ _ g1.0 in
    let even : size_at bytes at % 2 ≡ 0 = odd_not (size_at bytes at) both.1 in
    let len : length (slice_range bytes (at + 4) (at + size_at bytes at)) + 4 ≡ size_at bytes at = omega (arith, four, room, length-take (at + size_at bytes at - (at + 4)) (drop (at + 4) bytes), length-drop (at + 4) bytes) in
    let small : size_at bytes at < 65536 = omega (arith, fits at, fits (at + 1)) in
    let high = high_byte (get_or bytes at 0) (get_or bytes (at + 1) 0) (length (slice_range bytes (at + 4) (at + size_at bytes at)) + 4) (fits at) (fits (at + 1)) len in
    let low = low_byte (get_or bytes at 0) (get_or bytes (at + 1) 0) (length (slice_range bytes (at + 4) (at + size_at bytes at)) + 4) (fits at) (fits (at + 1)) len in
    let tail : drop (at + 4) bytes ≡ slice_range bytes (at + 4) (at + size_at bytes at) ++ drop (at + size_at bytes at) bytes = parts bytes (at + 4) (at + size_at bytes at) (omega (arith, four)) in
    subst (λ (x : GdsRec). Cuts bytes at x) (ok_is made r g2.1) (record {
      raw = record { short = omega (arith, len, small); even = rw len even };
      size = omega (arith, len);
      is = rw (high, low) (cells bytes at (omega (arith, four, room)) ∙ ap (λ (t : List ℕ). get_or bytes at 0 ∷ get_or bytes (at + 1) 0 ∷ get_or bytes (at + 2) 0 ∷ get_or bytes (at + 3) 0 ∷ t) tail);
      at_is = refl;
    })
