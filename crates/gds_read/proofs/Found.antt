-- The first pass accepts the libraries, and no other bytes.
use Rattle.std.proofs.Common.{ℕ, zero, suc, ◌≡◌, ◌+◌, ◌≤◌, ◌==◌, Bool, cond, ltb, List, [], ◌∷◌, ◌++◌, length, drop, position, Option, Some, None, Result, Ok, Err, refl, sym, ap, subst, ◌∙◌, arith, append_assoc, length-append, inl, inr, ◌⊎◌}
use Rattle.std.specs.Prelude.{replicate, not}
use Rattle.std.specs.List.{AllByRecursion, position_or_len}
use Rattle.std.proofs.lemmas.Bool.{ltb-false, cases_Bool, eqb-true, le-ltb}
use Rattle.std.proofs.lemmas.List.{append-nil, length-replicate}
use Rattle.std.proofs.lemmas.List.Recursion.{is_position_or_len}
use Rattle.std.proofs.Math.Seq.{drop-append_seam}
use Rattle.gds_record.specs.declared.record.GdsRec.{GdsRec}
use Rattle.gds_record.specs.declared.record.RecFault.{RecFault}
use Rattle.gds_record.specs.Records.{Raw, IsRaw, IsBytes, spelled, spelling, item, placed, ends, raw_at, Item, item_of, Stream, with_record, record_at, walk, records_from}
use Rattle.gds_record.proofs.Spelled.{join, stream_spelled, ends_at}
use Rattle.gds_record.proofs.Cuts.{Cuts, cuts}
use Rattle.gds_area.specs.declared.fault.GdsFault.{GdsFault}
use Rattle.gds_read.specs.declared.grammar.Place.{Place}
use Rattle.gds_read.specs.declared.grammar.Place.TheVariants.{Start, Opened, Library, Naming, Structure, Element, Ended}
use Rattle.cell_num.specs.Steps.{◌>>=◌}
use Rattle.gds_read.specs.Grammar.{pass, first_pass_of, step_of, zeros_behind, first_behind, goes_on}
use Rattle.gds_read.specs.Library.{Follows, IsLibrary}

pub record Rests (bytes : List ℕ) (at : ℕ) (place : Place) (end : ℕ) : Type 0 where
  pub records : List Raw
  pub is : drop at bytes ≡ spelling records ++ drop end bytes
  pub whole : AllByRecursion IsRaw records
  pub follows : Follows at place records Ended
  pub ends : at + length (spelling records) ≡ end
  pub zeros : zeros_behind bytes end ≡ Ok end

pub bind_ok : {A B : Type 0} (x : Result A GdsFault) (f : A → Result B GdsFault) (y : B) → (x >>= f) ≡ Ok y → (a : A) × (x ≡ Ok a) × (f a ≡ Ok y)
bind_ok (Ok a) f y e = (a, refl, e)
bind_ok (Err g) f y e = absurd cc

pub not_ok : {A : Type 0} (f : GdsFault) (y : A) → ◌≡◌ {A = Result A GdsFault} (Err f) (Ok y) → ⊥
not_ok f y e = absurd cc

number_is : (m n : ℕ) → ◌≡◌ {A = Result ℕ GdsFault} (Ok m) (Ok n) → m ≡ n
number_is m n e = cc

end_is : (bytes : List ℕ) (from end : ℕ) → zeros_behind bytes from ≡ Ok end → from ≡ end
end_is bytes from end e = go (position (λ b. not (b == 0)) (drop from bytes)) e
  where
    go : (o : Option ℕ) → first_behind bytes from o ≡ Ok end → from ≡ end
    go None e = number_is from end e
    go (Some i) e = absurd (not_ok _ end e)

went : (next : Place) (a b : Result ℕ GdsFault) (end : ℕ) → goes_on next a b ≡ Ok end → ((next ≡ Ended) × (a ≡ Ok end)) ⊎ ((next ≡ Ended → ⊥) × (b ≡ Ok end))
went Start a b end e = inr ((λ h. absurd cc), e)
went Opened a b end e = inr ((λ h. absurd cc), e)
went (Library n u s) a b end e = inr ((λ h. absurd cc), e)
went Naming a b end e = inr ((λ h. absurd cc), e)
went Structure a b end e = inr ((λ h. absurd cc), e)
went (Element kind seen) a b end e = inr ((λ h. absurd cc), e)
went Ended a b end e = inl (refl, e)

pub follows_more : (at : ℕ) (place next last : Place) (r : Raw) (rs : List Raw) → (place ≡ Ended → ⊥) → step_of place (item at r) ≡ Ok next → Follows (at + (length r.content + 4)) next rs last → Follows at place (r ∷ rs) last
follows_more at Start next last r rs other e f = (next, e, f)
follows_more at Opened next last r rs other e f = (next, e, f)
follows_more at (Library n u s) next last r rs other e f = (next, e, f)
follows_more at Naming next last r rs other e f = (next, e, f)
follows_more at Structure next last r rs other e f = (next, e, f)
follows_more at (Element kind seen) next last r rs other e f = (next, e, f)
follows_more at Ended next last r rs other e f = absurd (other refl)

pub spelled_length : (r : Raw) → length (spelled r) ≡ length r.content + 4
unfolding spelled
spelled_length r = omega arith

pub same_item : (bytes : List ℕ) (at : ℕ) (r : GdsRec) → Cuts bytes at r → item_of bytes r ≡ item at (raw_at bytes r)
same_item bytes at r c = rw (c.size, c.at_is) refl

rests : (n : ℕ) (bytes : List ℕ) (at : ℕ) (place : Place) (end : ℕ) → IsBytes bytes → (place ≡ Ended → ⊥) → pass bytes place (walk n bytes at).items (walk n bytes at).fault ≡ Ok end → Rests bytes at place end
unfolding pass walk
rests zero bytes at place end fits other e = absurd (not_ok _ end e)
rests (suc n) bytes at place end fits other e = go (λ a p o q. rests n bytes a p end fits o q) (record_at bytes at) refl e
  where
    go : ((a : ℕ) (p : Place) → (p ≡ Ended → ⊥) → pass bytes p (walk n bytes a).items (walk n bytes a).fault ≡ Ok end → Rests bytes a p end) → (x : Result GdsRec RecFault) → record_at bytes at ≡ x → pass bytes place (with_record bytes x (λ next. walk n bytes next)).items (with_record bytes x (λ next. walk n bytes next)).fault ≡ Ok end → Rests bytes at place end
    go rec_call (Err f) h e = absurd (not_ok _ end e)
    go rec_call (Ok r) h e =
        let c : Cuts bytes at r = cuts bytes at r fits h in
        let b = bind_ok (step_of place (item_of bytes r)) (λ next. goes_on next (zeros_behind bytes r.next) (pass bytes next (walk n bytes r.next).items (walk n bytes r.next).fault)) end e in
        let step : step_of place (item at (raw_at bytes r)) ≡ Ok b.0 = subst (λ (i : Item). step_of place i ≡ Ok b.0) (same_item bytes at r c) b.1 in
        elim (went b.0 (zeros_behind bytes r.next) (pass bytes b.0 (walk n bytes r.next).items (walk n bytes r.next).fault) end b.2) [
          | inl done ↦
              let e2 : r.next ≡ end = end_is bytes r.next end done.1 in
              let last : Follows (at + (length (raw_at bytes r).content + 4)) b.0 [] Ended = done.0 in
              record {
                records = raw_at bytes r ∷ [];
                is = rw (append-nil (spelled (raw_at bytes r)), ← e2) c.is;
                whole = (c.raw, tt);
                follows = follows_more at place b.0 Ended (raw_at bytes r) [] other step last;
                ends = omega (arith, c.size, e2, ap (λ (t : List ℕ). length t) (append-nil (spelled (raw_at bytes r))), spelled_length (raw_at bytes r));
                zeros = rw (← e2) (done.1 ∙ ap (λ (m : ℕ). Ok m) (sym e2));
              }
          | inr more ↦
              let s : Rests bytes r.next b.0 end = rec_call r.next b.0 more.0 more.1 in
              record {
                records = raw_at bytes r ∷ s.records;
                is = c.is ∙ (ap (λ (t : List ℕ). spelled (raw_at bytes r) ++ t) s.is ∙ sym (append_assoc (spelled (raw_at bytes r)) (spelling s.records) (drop end bytes)));
                whole = (c.raw, s.whole);
                follows = follows_more at place b.0 Ended (raw_at bytes r) s.records other step (subst (λ (m : ℕ). Follows m b.0 s.records Ended) (sym c.size) s.follows);
                ends = omega (arith, c.size, s.ends, length-append (spelled (raw_at bytes r)) (spelling s.records), spelled_length (raw_at bytes r));
                zeros = s.zeros;
              }
        ]

-- ---- zero bytes alone

abbrev zero_run : List ℕ → ℕ
zero_run [] = 0
zero_run (b ∷ bs) = cond (not (b == 0)) 0 (1 + zero_run bs)

zero_run_is : (xs : List ℕ) → zero_run xs ≡ position_or_len (λ b. not (b == 0)) xs
zero_run_is xs = is_position_or_len zero_run (λ b. not (b == 0)) refl (λ b bs. refl) xs

zero_run_le : (xs : List ℕ) → zero_run xs ≤ length xs
zero_run_le [] = omega arith
zero_run_le (b ∷ bs) = elim (cases_Bool (b == 0)) [
  | inl same ↦ rw same (omega (arith, zero_run_le bs))
  | inr other ↦ rw other (omega arith)
]

all_zero : (xs : List ℕ) → zero_run xs ≡ length xs → xs ≡ replicate (length xs) 0
all_zero [] e = refl
all_zero (b ∷ bs) e = elim (cases_Bool (b == 0)) [
  | inl same ↦
      let z : zero_run (b ∷ bs) ≡ 1 + zero_run bs = rw same refl in
      let inner : bs ≡ replicate (length bs) 0 = all_zero bs (omega (arith, z, e)) in
      ap (λ (c : ℕ). c ∷ bs) (eqb-true _ _ same) ∙ ap (λ (t : List ℕ). 0 ∷ t) inner
  | inr other ↦ let z : zero_run (b ∷ bs) ≡ 0 = rw other refl in absurd (omega (arith, z, e))
]

run_zeros : (n : ℕ) → zero_run (replicate n 0) ≡ n
run_zeros zero = refl
run_zeros (suc n) = omega (arith, run_zeros n)

none_left : (bytes : List ℕ) (end u n : ℕ) → first_behind bytes end (cond (ltb u n) (Some u) None) ≡ Ok end → n ≤ u
none_left bytes end u n e = elim (cases_Bool (ltb u n)) [
  | inl lt ↦ absurd (not_ok _ end (sym (ap (λ (p : Bool). first_behind bytes end (cond p (Some u) None)) lt) ∙ e))
  | inr ge ↦ ltb-false _ _ ge
]

none_is : (bytes : List ℕ) (end : ℕ) → zeros_behind bytes end ≡ Ok end → drop end bytes ≡ replicate (length (drop end bytes)) 0
none_is bytes end e = all_zero (drop end bytes) (omega (arith, zero_run_is (drop end bytes), zero_run_le (drop end bytes), none_left bytes end (position_or_len (λ b. not (b == 0)) (drop end bytes)) (length (drop end bytes)) e))

pub found : (bytes : List ℕ) (end : ℕ) → IsBytes bytes → first_pass_of bytes ≡ Ok end → IsLibrary bytes end
found bytes end fits e =
    let r : Rests bytes 0 Start end = rests (suc (length bytes)) bytes 0 Start end fits (λ h. absurd cc) e in
    record {
      records = r.records;
      zeros = length (drop end bytes);
      is = r.is ∙ ap (λ (t : List ℕ). spelling r.records ++ t) (none_is bytes end r.zeros);
      whole = r.whole;
      follows = r.follows;
      ends = omega (arith, r.ends);
    }

-- ---- and back

tail_passes : (bytes : List ℕ) (at : ℕ) (next : Place) (rs : List Raw) (rest : Result ℕ GdsFault) → Follows at next rs Ended → ((next ≡ Ended → ⊥) → rest ≡ zeros_behind bytes (ends at rs)) → goes_on next (zeros_behind bytes at) rest ≡ zeros_behind bytes (ends at rs)
tail_passes bytes at Ended [] rest f more = refl
tail_passes bytes at Ended (r ∷ rs) rest f more = absurd f
tail_passes bytes at Start rs rest f more = more (λ h. absurd cc)
tail_passes bytes at Opened rs rest f more = more (λ h. absurd cc)
tail_passes bytes at (Library n u t) rs rest f more = more (λ h. absurd cc)
tail_passes bytes at Naming rs rest f more = more (λ h. absurd cc)
tail_passes bytes at Structure rs rest f more = more (λ h. absurd cc)
tail_passes bytes at (Element kind seen) rs rest f more = more (λ h. absurd cc)

pub parts_of : (at : ℕ) (place last : Place) (r : Raw) (rs : List Raw) → Follows at place (r ∷ rs) last → (next : Place) × (step_of place (item at r) ≡ Ok next) × Follows (at + (length r.content + 4)) next rs last
parts_of at Start last r rs f = f
parts_of at Opened last r rs f = f
parts_of at (Library n u t) last r rs f = f
parts_of at Naming last r rs f = f
parts_of at Structure last r rs f = f
parts_of at (Element kind seen) last r rs f = f
parts_of at Ended last r rs f = absurd f

pub passes_all : (bytes : List ℕ) (at : ℕ) (place : Place) (rs : List Raw) (s : Stream) → (place ≡ Ended → ⊥) → Follows at place rs Ended → pass bytes place (join (placed at rs) s).items (join (placed at rs) s).fault ≡ zeros_behind bytes (ends at rs)
unfolding pass
passes_all bytes at place [] s other f = absurd (other f)
passes_all bytes at place (r ∷ rs) s other f =
    let p = parts_of at place Ended r rs f in
    rw p.1 (tail_passes bytes (at + (length r.content + 4)) p.0 rs _ p.2 (λ not_end. passes_all bytes (at + (length r.content + 4)) p.0 rs s not_end p.2))

zeros_ok : (bytes front : List ℕ) (n end : ℕ) → bytes ≡ front ++ replicate n 0 → length front ≡ end → zeros_behind bytes end ≡ Ok end
zeros_ok bytes front n end is e =
    let rest : drop end bytes ≡ replicate n 0 = ap (λ (m : ℕ). drop m bytes) (sym e) ∙ ap (λ (t : List ℕ). drop (length front) t) is ∙ drop-append_seam front (replicate n 0) in
    let u : position_or_len (λ b. not (b == 0)) (replicate n 0) ≡ n = sym (zero_run_is (replicate n 0)) ∙ run_zeros n in
    let k : length (replicate {A = ℕ} n 0) ≡ n = length-replicate {A = ℕ} n 0 in
    rw (rest, u, k, le-ltb n n (omega arith)) refl

pub only : (bytes : List ℕ) (end : ℕ) → IsLibrary bytes end → first_pass_of bytes ≡ Ok end
only bytes end l =
    let stream : records_from bytes 0 ≡ join (placed 0 l.records) (records_from bytes (ends 0 l.records)) = stream_spelled bytes [] (replicate l.zeros 0) l.records 0 l.whole refl l.is in
    let place : ends 0 l.records ≡ end = omega (arith, ends_at 0 l.records, l.ends) in
    ap (λ (s : Stream). pass bytes Start s.items s.fault) stream ∙ (passes_all bytes 0 Start l.records (records_from bytes (ends 0 l.records)) (λ h. absurd cc) l.follows ∙ (ap (λ (n : ℕ). zeros_behind bytes n) place ∙ zeros_ok bytes (spelling l.records) l.zeros end l.is l.ends))
