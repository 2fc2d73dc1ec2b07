-- The first record that is not right where it stands.
use Rattle.std.proofs.Common.{ℕ, zero, suc, ◌≡◌, ◌+◌, ◌<◌, true, ltb, List, [], ◌∷◌, ◌++◌, length, drop, Result, Ok, Err, refl, sym, ap, subst, ◌∙◌, arith, append_assoc, length-append, inl, inr, ◌⊎◌}
use Rattle.std.specs.List.{AllByRecursion}
use Rattle.std.proofs.lemmas.Bool.{lt-ltb}
use Rattle.gds_record.specs.declared.record.GdsRec.{GdsRec}
use Rattle.gds_record.specs.declared.record.RecFault.{RecFault}
use Rattle.gds_record.specs.declared.record.RecFault.TheVariants.{Cut}
use Rattle.gds_record.specs.Records.{Raw, IsRaw, IsBytes, spelled, spelling, item, placed, ends, raw_at, Item, item_of, Stream, with_record, record_at, walk, records_from}
use Rattle.gds_record.proofs.Spelled.{join, stream_spelled, ends_at}
use Rattle.gds_record.proofs.Cuts.{Cuts, cuts}
use Rattle.gds_area.specs.declared.fault.GdsFault.{GdsFault}
use Rattle.gds_read.specs.declared.grammar.Place.{Place}
use Rattle.gds_read.specs.declared.grammar.Place.TheVariants.{Start, Opened, Library, Naming, Structure, Element, Ended}
use Rattle.cell_num.specs.Steps.{◌>>=◌}
use Rattle.gds_read.specs.Grammar.{pass, pass_from, first_pass_of, step_of, zeros_behind, goes_on}
use Rattle.gds_area.specs.Faults.{as_fault}
use Rattle.gds_read.specs.Library.{Follows, fault_or, step_at, HasFault, IsFirstFault}
use Rattle.gds_read.proofs.Passes.{pass_stops, pass_fails}
use Rattle.gds_read.proofs.Found.{follows_more, spelled_length, same_item, parts_of, passes_all}

fault_here : (bytes : List ℕ) (at : ℕ) (place : Place) (f : GdsFault) → (place ≡ Ended → ⊥) → step_at bytes at place ≡ Err f → HasFault bytes at place f
fault_here bytes at Start f other e = e
fault_here bytes at Opened f other e = e
fault_here bytes at (Library n u s) f other e = e
fault_here bytes at Naming f other e = e
fault_here bytes at Structure f other e = e
fault_here bytes at (Element kind seen) f other e = e
fault_here bytes at Ended f other e = absurd (other refl)

here_fault : (bytes : List ℕ) (at : ℕ) (place : Place) (f : GdsFault) → (place ≡ Ended → ⊥) → HasFault bytes at place f → step_at bytes at place ≡ Err f
here_fault bytes at Start f other e = e
here_fault bytes at Opened f other e = e
here_fault bytes at (Library n u s) f other e = e
here_fault bytes at Naming f other e = e
here_fault bytes at Structure f other e = e
here_fault bytes at (Element kind seen) f other e = e
here_fault bytes at Ended f other e = absurd (other refl)

ended_or : (place : Place) → (place ≡ Ended) ⊎ (place ≡ Ended → ⊥)
ended_or Start = inr (λ h. absurd cc)
ended_or Opened = inr (λ h. absurd cc)
ended_or (Library n u s) = inr (λ h. absurd cc)
ended_or Naming = inr (λ h. absurd cc)
ended_or Structure = inr (λ h. absurd cc)
ended_or (Element kind seen) = inr (λ h. absurd cc)
ended_or Ended = inl refl

went_on : (next : Place) (a b : Result ℕ GdsFault) → (next ≡ Ended → ⊥) → goes_on next a b ≡ b
went_on Start a b other = refl
went_on Opened a b other = refl
went_on (Library n u s) a b other = refl
went_on Naming a b other = refl
went_on Structure a b other = refl
went_on (Element kind seen) a b other = refl
went_on Ended a b other = absurd (other refl)

went_behind : (next : Place) (a b : Result ℕ GdsFault) → next ≡ Ended → goes_on next a b ≡ a
went_behind next a b e = rw e refl

-- the records from a place on that are right, and the fault behind them
record Faults (bytes : List ℕ) (at : ℕ) (place : Place) (f : GdsFault) : Type 0 where
  pub before : List Raw
  pub is : drop at bytes ≡ spelling before ++ drop (at + length (spelling before)) bytes
  pub whole : AllByRecursion IsRaw before
  pub last : Place
  pub follows : Follows at place before last
  pub fault : HasFault bytes (at + length (spelling before)) last f

plus_none : (at : ℕ) → at ≡ at + length (spelling [])
plus_none at = omega arith

none_at : (bytes : List ℕ) (at : ℕ) (place : Place) (f : GdsFault) → HasFault bytes at place f → Faults bytes at place f
none_at bytes at place f e =
    record {
      before = [];
      is = ap (λ (m : ℕ). drop m bytes) (plus_none at);
      whole = tt;
      last = place;
      follows = refl;
      fault = subst (λ (m : ℕ). HasFault bytes m place f) (plus_none at) e;
    }

none_before : (bytes : List ℕ) (at : ℕ) (place : Place) (f : GdsFault) → (place ≡ Ended → ⊥) → step_at bytes at place ≡ Err f → Faults bytes at place f
none_before bytes at place f other e = none_at bytes at place f (fault_here bytes at place f other e)

one_before : (bytes : List ℕ) (at : ℕ) (place next : Place) (f : GdsFault) (r : GdsRec) → (place ≡ Ended → ⊥) → Cuts bytes at r → step_of place (item at (raw_at bytes r)) ≡ Ok next → Faults bytes r.next next f → Faults bytes at place f
one_before bytes at place next f r other c step s =
    let size : at + length (spelled (raw_at bytes r) ++ spelling s.before) ≡ r.next + length (spelling s.before) = omega (arith, c.size, length-append (spelled (raw_at bytes r)) (spelling s.before), spelled_length (raw_at bytes r)) in
    record {
      before = raw_at bytes r ∷ s.before;
      is = rw size (c.is ∙ (ap (λ (t : List ℕ). spelled (raw_at bytes r) ++ t) s.is ∙ sym (append_assoc (spelled (raw_at bytes r)) (spelling s.before) (drop (r.next + length (spelling s.before)) bytes))));
      whole = (c.raw, s.whole);
      last = s.last;
      follows = follows_more at place next s.last (raw_at bytes r) s.before other step (subst (λ (m : ℕ). Follows m next s.before s.last) (sym c.size) s.follows);
      fault = subst (λ (m : ℕ). HasFault bytes m s.last f) (sym size) s.fault;
    }

behind_end : (bytes : List ℕ) (at : ℕ) (next : Place) (f : GdsFault) → next ≡ Ended → zeros_behind bytes at ≡ Err f → Faults bytes at next f
behind_end bytes at next f ended e = none_at bytes at next f (subst (λ (p : Place). HasFault bytes at p f) (sym ended) e)

no_room : (bytes : List ℕ) (at : ℕ) → length bytes < at → record_at bytes at ≡ Err (Cut at)
no_room bytes at h = let e : ltb (length bytes) (at + 4) ≡ true = lt-ltb _ _ (omega arith) in rw e refl

same_fault : (f g : GdsFault) → ◌≡◌ {A = Result ℕ GdsFault} (Err f) (Err g) → ◌≡◌ {A = Result Place GdsFault} (Err f) (Err g)
same_fault f g e = cc

abbrev passed : List ℕ → Place → Stream → Result ℕ GdsFault
passed bytes place s = pass bytes place s.items s.fault

faults : (n : ℕ) (bytes : List ℕ) (at : ℕ) (place : Place) (f : GdsFault) → IsBytes bytes → length bytes < n + at → (place ≡ Ended → ⊥) → passed bytes place (walk n bytes at) ≡ Err f → Faults bytes at place f
unfolding pass walk
faults zero bytes at place f fits room other e =
    let cut : record_at bytes at ≡ Err (Cut at) = no_room bytes at (omega (arith, room)) in
    none_before bytes at place f other (ap (λ (x : Result GdsRec RecFault). fault_or x (λ r. step_of place (item_of bytes r))) cut ∙ same_fault (as_fault (Cut at)) f e)
faults (suc n) bytes at place f fits room other e = go (λ a p within o q. faults n bytes a p f fits within o q) (record_at bytes at) refl e
  where
    go : ((a : ℕ) (p : Place) → length bytes < n + a → (p ≡ Ended → ⊥) → passed bytes p (walk n bytes a) ≡ Err f → Faults bytes a p f) → (x : Result GdsRec RecFault) → record_at bytes at ≡ x → passed bytes place (with_record bytes x (λ next. walk n bytes next)) ≡ Err f → Faults bytes at place f
    go again (Err g) h e = none_before bytes at place f other (ap (λ (x : Result GdsRec RecFault). fault_or x (λ r. step_of place (item_of bytes r))) h ∙ same_fault (as_fault g) f e)
    go again (Ok r) h e = on_step again r h (step_of place (item_of bytes r)) refl e
      where
        on_step : ((a : ℕ) (p : Place) → length bytes < n + a → (p ≡ Ended → ⊥) → passed bytes p (walk n bytes a) ≡ Err f → Faults bytes a p f) → (r : GdsRec) → record_at bytes at ≡ Ok r → (x : Result Place GdsFault) → step_of place (item_of bytes r) ≡ x → (x >>= λ next. goes_on next (zeros_behind bytes r.next) (passed bytes next (walk n bytes r.next))) ≡ Err f → Faults bytes at place f
        on_step again r h (Err g) s e = none_before bytes at place f other (ap (λ (x : Result GdsRec RecFault). fault_or x (λ r. step_of place (item_of bytes r))) h ∙ (s ∙ same_fault g f e))
        on_step again r h (Ok next) s e =
            let c : Cuts bytes at r = cuts bytes at r fits h in
            let step : step_of place (item at (raw_at bytes r)) ≡ Ok next = subst (λ (i : Item). step_of place i ≡ Ok next) (same_item bytes at r c) s in
            elim (ended_or next) [
              | inl done ↦ one_before bytes at place next f r other c step (behind_end bytes r.next next f done (sym (went_behind next (zeros_behind bytes r.next) (passed bytes next (walk n bytes r.next)) done) ∙ e))
              | inr more ↦ one_before bytes at place next f r other c step (again r.next next (omega (arith, room, c.size)) more (sym (went_on next (zeros_behind bytes r.next) (passed bytes next (walk n bytes r.next)) more) ∙ e))
            ]

pub first_fault : (bytes : List ℕ) (f : GdsFault) → IsBytes bytes → first_pass_of bytes ≡ Err f → IsFirstFault bytes f
first_fault bytes f fits e =
    let s : Faults bytes 0 Start f = faults (suc (length bytes)) bytes 0 Start f fits (omega arith) (λ h. absurd cc) e in
    record {
      before = s.before;
      rest = drop (length (spelling s.before)) bytes;
      is = subst (λ (m : ℕ). bytes ≡ spelling s.before ++ drop m bytes) (zero_plus (length (spelling s.before))) s.is;
      whole = s.whole;
      place = s.last;
      follows = s.follows;
      fault = subst (λ (m : ℕ). HasFault bytes m s.last f) (zero_plus (length (spelling s.before))) s.fault;
    }
  where
    zero_plus : (n : ℕ) → 0 + n ≡ n
    zero_plus n = omega arith

-- ---- and back

passes_to : (bytes : List ℕ) (at : ℕ) (place last : Place) (rs : List Raw) (s : Stream) → (place ≡ Ended → ⊥) → (last ≡ Ended → ⊥) → Follows at place rs last → passed bytes place (join (placed at rs) s) ≡ passed bytes last s
unfolding pass
passes_to bytes at place last [] s other more f = ap (λ (p : Place). passed bytes p s) f
passes_to bytes at place last (r ∷ rs) s other more f =
    let p = parts_of at place last r rs f in
    let going : p.0 ≡ Ended → ⊥ = λ ended. more (ended_stays (at + (length r.content + 4)) p.0 last rs ended p.2) in
    rw p.1 (went_on p.0 (zeros_behind bytes (at + (length r.content + 4))) (passed bytes p.0 (join (placed (at + (length r.content + 4)) rs) s)) going ∙ passes_to bytes (at + (length r.content + 4)) p.0 last rs s going more p.2)
  where
    ended_stays : (at : ℕ) (next last : Place) (rs : List Raw) → next ≡ Ended → Follows at next rs last → last ≡ Ended
    ended_stays at next last [] ended f = sym f ∙ ended
    ended_stays at next last (r ∷ rs) ended f = absurd (subst (λ (p : Place). Follows at p (r ∷ rs) last) ended f)

stops_at : (bytes : List ℕ) (at : ℕ) (place : Place) (f : GdsFault) → step_at bytes at place ≡ Err f → pass_from bytes place at ≡ Err f
stops_at bytes at place f e = go (record_at bytes at) refl e
  where
    fault_is : (g h : GdsFault) → ◌≡◌ {A = Result Place GdsFault} (Err g) (Err h) → ◌≡◌ {A = Result ℕ GdsFault} (Err g) (Err h)
    fault_is g h e = cc

    go : (x : Result GdsRec RecFault) → record_at bytes at ≡ x → fault_or x (λ r. step_of place (item_of bytes r)) ≡ Err f → pass_from bytes place at ≡ Err f
    go (Err g) h e = pass_stops bytes place at g h ∙ fault_is (as_fault g) f e
    go (Ok r) h e = pass_fails bytes place at r f h e

pub only_fault : (bytes : List ℕ) (f : GdsFault) → IsFirstFault bytes f → first_pass_of bytes ≡ Err f
only_fault bytes f l =
    let stream : records_from bytes 0 ≡ join (placed 0 l.before) (records_from bytes (ends 0 l.before)) = stream_spelled bytes [] l.rest l.before 0 l.whole refl l.is in
    let place : ends 0 l.before ≡ length (spelling l.before) = omega (arith, ends_at 0 l.before) in
    let start : Start ≡ Ended → ⊥ = λ h. absurd cc in
    elim (ended_or l.place) [
      | inl done ↦
          let follows : Follows 0 Start l.before Ended = subst (λ (p : Place). Follows 0 Start l.before p) done l.follows in
          let fault : zeros_behind bytes (length (spelling l.before)) ≡ Err f = subst (λ (p : Place). HasFault bytes (length (spelling l.before)) p f) done l.fault in
          ap (λ (s : Stream). passed bytes Start s) stream ∙ (passes_all bytes 0 Start l.before (records_from bytes (ends 0 l.before)) start follows ∙ (ap (λ (n : ℕ). zeros_behind bytes n) place ∙ fault))
      | inr more ↦
          ap (λ (s : Stream). passed bytes Start s) stream ∙ (passes_to bytes 0 Start l.place l.before (records_from bytes (ends 0 l.before)) start more l.follows ∙ (ap (λ (n : ℕ). pass_from bytes l.place n) place ∙ stops_at bytes (length (spelling l.before)) l.place f (here_fault bytes (length (spelling l.before)) l.place f more l.fault)))
    ]
