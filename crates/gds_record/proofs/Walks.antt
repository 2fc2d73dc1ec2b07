-- The records from a place on, a record at a time.
use Rattle.std.proofs.Common.{ℕ, zero, suc, ◌≡◌, ◌+◌, ◌%◌, ◌<◌, ◌≤◌, ◌==◌, ◌||◌, Bool, true, false, cond, ltb, List, [], ◌∷◌, length, get_or, Result, Ok, Err, refl, sym, ap, subst, ◌∙◌, arith}
use Rattle.std.proofs.lemmas.Bool.{ltb-false, lt-ltb}
use Rattle.gds_record.specs.declared.record.GdsRec.{GdsRec}
use Rattle.gds_record.specs.declared.record.RecFault.{RecFault}
use Rattle.gds_record.specs.declared.record.RecFault.TheVariants.{Cut, Length}
use Rattle.gds_record.specs.Records.{item_of, Stream, with_record, size_at, record_at, walk, records_from, items_from}

pub record Moves (bytes : List ℕ) (at : ℕ) (r : GdsRec) : Type 0 where
  pub at_is : r.at ≡ at
  pub after : at + 4 ≤ r.next
  pub within : r.next ≤ length bytes

guarded : {X : Type 0} (b : Bool) (f : RecFault) (rest : Result X RecFault) (x : X) → cond b (Err f) rest ≡ Ok x → (b ≡ false) × (rest ≡ Ok x)
guarded true f rest x e = absurd cc
guarded false f rest x e = (refl, e)

no_left : (a b : Bool) → (a || b) ≡ false → a ≡ false
no_left true b e = absurd cc
no_left false b e = refl

-- a record is whole
pub moves : (bytes : List ℕ) (at : ℕ) (r : GdsRec) → record_at bytes at ≡ Ok r → Moves bytes at r
moves bytes at r e =
    let made : GdsRec = record { at = at; code = get_or bytes (at + 2) 0; form = get_or bytes (at + 3) 0; next = at + size_at bytes at } in
    let a = guarded (ltb (length bytes) (at + 4)) (Cut at) _ r e in
    let b = guarded (ltb (length bytes) (at + size_at bytes at)) (Cut at) _ r a.1 in
    let c = guarded (ltb (size_at bytes at) 4 || (size_at bytes at % 2 == 1)) (Length at) _ r b.1 in
    let same : made ≡ r = ok_is made r c.1 in
    let long : 4 ≤ size_at bytes at = ltb-false _ _ (no_left (ltb (size_at bytes at) 4) _ c.0) in
    subst (λ (x : GdsRec). Moves bytes at x) same (record { at_is = refl; after = omega (arith, long); within = ltb-false _ _ b.0 })
  where
    ok_is : (x y : GdsRec) → ◌≡◌ {A = Result GdsRec RecFault} (Ok x) (Ok y) → x ≡ y
    ok_is x y e = cc

with_same : (bytes : List ℕ) (x : Result GdsRec RecFault) (f g : ℕ → Stream) → ((r : GdsRec) → x ≡ Ok r → f r.next ≡ g r.next) → with_record bytes x f ≡ with_record bytes x g
with_same bytes (Err e) f g same = refl
with_same bytes (Ok r) f g same = rw (same r refl) refl

-- where no record can begin
past : (n : ℕ) (bytes : List ℕ) (at : ℕ) → length bytes < at → walk n bytes at ≡ record { items = []; fault = Cut at }
unfolding walk
past zero bytes at h = refl
past (suc n) bytes at h = let e : ltb (length bytes) (at + 4) ≡ true = lt-ltb _ _ (omega arith) in rw e refl

-- more steps than bytes are enough
pub enough : (n m : ℕ) (bytes : List ℕ) (at : ℕ) → length bytes < n + at → length bytes < m + at → walk n bytes at ≡ walk m bytes at
unfolding walk
enough zero m bytes at h k = sym (past m bytes at (omega (arith, h)))
enough (suc n) zero bytes at h k = past (suc n) bytes at (omega (arith, k))
enough (suc n) (suc m) bytes at h k =
    with_same bytes (record_at bytes at) (λ next. walk n bytes next) (λ next. walk m bytes next) (λ r e. let w : Moves bytes at r = moves bytes at r e in enough n m bytes r.next (omega (arith, w.after)) (omega (arith, w.after)))

-- the records from a place on are the record there, and those behind it
pub from_step : (bytes : List ℕ) (at : ℕ) → records_from bytes at ≡ with_record bytes (record_at bytes at) (λ next. records_from bytes next)
unfolding walk
from_step bytes at = with_same bytes (record_at bytes at) (λ next. walk (length bytes) bytes next) (λ next. records_from bytes next) (λ r e. let w : Moves bytes at r = moves bytes at r e in enough (length bytes) (suc (length bytes)) bytes r.next (omega (arith, w.after)) (omega (arith, w.after)))

pub items_end : (bytes : List ℕ) (at : ℕ) (f : RecFault) → record_at bytes at ≡ Err f → items_from bytes at ≡ []
items_end bytes at f e = ap (λ (s : Stream). s.items) (from_step bytes at) ∙ (rw e refl)

pub items_more : (bytes : List ℕ) (at : ℕ) (r : GdsRec) → record_at bytes at ≡ Ok r → items_from bytes at ≡ item_of bytes r ∷ items_from bytes r.next
items_more bytes at r e = ap (λ (s : Stream). s.items) (from_step bytes at) ∙ (rw e refl)
