-- A structure draws what those of its elements draw that are listed.
use Rattle.std.proofs.Common.{ℕ, zero, suc, ◌≡◌, ◌+◌, ◌<◌, ◌≤◌, arith, length, Bool, true, false, List, [], ◌∷◌, ◌++◌, Result, Ok, Err, refl, sym, subst, ap, ◌∙◌, append_assoc, append-nil, inl, inr}
use Rattle.std.specs.Prelude.{if◌then◌else◌}
use Rattle.std.proofs.lemmas.Bool.{cases_Bool, cases_eq, eq-eqb, ne_eqb}
use Rattle.gds_record.specs.declared.record.GdsRec.{GdsRec}
use Rattle.gds_record.specs.declared.record.RecFault.{RecFault}
use Rattle.gds_record.specs.declared.types.RecordType.TheVariants as record_type
use Rattle.gds_record.specs.Types.{number_of, type_numbered}
use Rattle.gds_record.specs.Records.{Item, item_of, record_at, items_from}
use Rattle.gds_record.proofs.Walks.{Moves, moves, items_end, items_more}
use Rattle.gds_area.specs.declared.fault.GdsFault.{GdsFault}
use Rattle.gds_area.specs.declared.units.Grid.{Grid}
use Rattle.gds_area.specs.declared.progress.Progress.{Progress}
use Rattle.gds_area.specs.declared.progress.Origin.{Origin}
use Rattle.gds_area.specs.declared.progress.Context.{Context}
use Rattle.cell_num.specs.Steps.{◌>>=◌}
use Rattle.gds_area.specs.Progress.{no_progress, one_reference, both, amount, within_limit, in_order, Adds}
use Rattle.gds_read.specs.Elements.{Element, elements_of}
use Rattle.gds_read.specs.Index.{draws, drawing_places}
use Rattle.gds_read.specs.Flat.{file_of, text_by, drawn_record, drawn_in, drawn_told, drawn_at, listed_in, drawn, Gives, flat_in}
use Rattle.gds_read.proofs.Drawings.{with_front, front_nothing, adds_all, ordered_none, ordered_more, ordered_stops, fault_kept, front_fault, drawn_from, rest_after, nothing_before, here, own, gives_taken, gives_fault}
use Rattle.gds_read.proofs.Copied.{context_inside, counted_room, copied, own_context}
use Rattle.gds_read.proofs.VisitedCopies.{visit}

-- ---- the list, an element at a time

places_end : (bytes : List ℕ) (labels : Bool) (at : ℕ) (f : RecFault) → record_at bytes at ≡ Err f → drawing_places labels (items_from bytes at) ≡ []
places_end bytes labels at f e = ap (drawing_places labels) (items_end bytes at f e)

places_there : (bytes : List ℕ) (labels : Bool) (at : ℕ) (r : GdsRec) → record_at bytes at ≡ Ok r → r.code ≡ number_of record_type.EndStr → drawing_places labels (items_from bytes at) ≡ []
places_there bytes labels at r e k = ap (drawing_places labels) (items_more bytes at r e) ∙ (rw (eq-eqb r.code (number_of record_type.EndStr) k) refl)

places_more : (bytes : List ℕ) (labels : Bool) (at : ℕ) (r : GdsRec) → record_at bytes at ≡ Ok r → (r.code ≡ number_of record_type.EndStr → ⊥) → draws labels (type_numbered r.code) (items_from bytes r.next) ≡ true → drawing_places labels (items_from bytes at) ≡ r.at ∷ drawing_places labels (items_from bytes r.next)
places_more bytes labels at r e other drawn_so =
    let rest = drawing_places labels (items_from bytes r.next) in
    ap (drawing_places labels) (items_more bytes at r e)
    ∙ (ap (λ (b : Bool). if b then [] else if draws labels (type_numbered r.code) (items_from bytes r.next) then r.at ∷ rest else rest) (ne_eqb r.code (number_of record_type.EndStr) other)
    ∙ ap (λ (b : Bool). if b then r.at ∷ rest else rest) drawn_so)

places_past : (bytes : List ℕ) (labels : Bool) (at : ℕ) (r : GdsRec) → record_at bytes at ≡ Ok r → (r.code ≡ number_of record_type.EndStr → ⊥) → draws labels (type_numbered r.code) (items_from bytes r.next) ≡ false → drawing_places labels (items_from bytes at) ≡ drawing_places labels (items_from bytes r.next)
places_past bytes labels at r e other not_so =
    let rest = drawing_places labels (items_from bytes r.next) in
    ap (drawing_places labels) (items_more bytes at r e)
    ∙ (ap (λ (b : Bool). if b then [] else if draws labels (type_numbered r.code) (items_from bytes r.next) then r.at ∷ rest else rest) (ne_eqb r.code (number_of record_type.EndStr) other)
    ∙ ap (λ (b : Bool). if b then r.at ∷ rest else rest) not_so)

pub ends_none : (bytes : List ℕ) (labels : Bool) (places all : List ℕ) (at : ℕ) (f : RecFault) → record_at bytes at ≡ Err f → places ++ drawing_places labels (items_from bytes at) ≡ all → places ≡ all
ends_none bytes labels places all at f e so = sym (append-nil places) ∙ (sym (ap (λ (t : List ℕ). places ++ t) (places_end bytes labels at f e)) ∙ so)

pub ends_there : (bytes : List ℕ) (labels : Bool) (places all : List ℕ) (at : ℕ) (r : GdsRec) → record_at bytes at ≡ Ok r → r.code ≡ number_of record_type.EndStr → places ++ drawing_places labels (items_from bytes at) ≡ all → places ≡ all
ends_there bytes labels places all at r e k so = sym (append-nil places) ∙ (sym (ap (λ (t : List ℕ). places ++ t) (places_there bytes labels at r e k)) ∙ so)

pub one_place_more : (bytes : List ℕ) (labels : Bool) (places new all : List ℕ) (at : ℕ) (r : GdsRec) → record_at bytes at ≡ Ok r → (r.code ≡ number_of record_type.EndStr → ⊥) → draws labels (type_numbered r.code) (items_from bytes r.next) ≡ true → new ≡ places ++ r.at ∷ [] → places ++ drawing_places labels (items_from bytes at) ≡ all → new ++ drawing_places labels (items_from bytes r.next) ≡ all
one_place_more bytes labels places new all at r e other drawn_so is so =
    ap (λ (t : List ℕ). t ++ drawing_places labels (items_from bytes r.next)) is
    ∙ (append_assoc places (r.at ∷ []) (drawing_places labels (items_from bytes r.next))
    ∙ (sym (ap (λ (t : List ℕ). places ++ t) (places_more bytes labels at r e other drawn_so)) ∙ so))

pub passed_over : (bytes : List ℕ) (labels : Bool) (places all : List ℕ) (at : ℕ) (r : GdsRec) → record_at bytes at ≡ Ok r → (r.code ≡ number_of record_type.EndStr → ⊥) → draws labels (type_numbered r.code) (items_from bytes r.next) ≡ false → places ++ drawing_places labels (items_from bytes at) ≡ all → places ++ drawing_places labels (items_from bytes r.next) ≡ all
passed_over bytes labels places all at r e other not_so so = sym (ap (λ (t : List ℕ). places ++ t) (places_past bytes labels at r e other not_so)) ∙ so

pub ruleset place_rules = (ends_none, ends_there, one_place_more, passed_over)

-- ---- where no labels are asked for, texts draw none

abbrev pub IsQuiet : Bool → Context → Type 0
IsQuiet labels context = labels ≡ false → (e : Element) → text_by context.grid context.origin e ≡ Ok no_progress

-- ---- what is listed draws all

same_rest : (bytes : List ℕ) (context : Context) (count : ℕ) (places : List ℕ) (es : List Element) (x : Result Progress GdsFault) → ((one : Progress) → x ≡ Ok one → count + amount one ≤ 1000000) → ((n : ℕ) → n ≤ 1000000 → listed_in bytes context n places ≡ drawn_in bytes context n es) → (x >>= λ one. listed_in bytes context (count + amount one) places >>= λ rest. Ok (both one rest)) ≡ (x >>= rest_after bytes context count es)
same_rest bytes context count places es (Ok one) room same = ap (λ (y : Result Progress GdsFault). y >>= λ rest. Ok (both one rest)) (same (count + amount one) (room one refl))
same_rest bytes context count places es (Err f) room same = refl

first_listed : (bytes : List ℕ) (context : Context) (count place : ℕ) (places : List ℕ) → listed_in bytes context count (place ∷ places) ≡ (drawn_at bytes context count place >>= λ one. listed_in bytes context (count + amount one) places >>= λ rest. Ok (both one rest))
unfolding in_order
first_listed bytes context count place places = refl

none_listed : (bytes : List ℕ) (context : Context) (count : ℕ) → listed_in bytes context count [] ≡ drawn_in bytes context count []
unfolding in_order
none_listed bytes context count = refl

drawn_there : (bytes : List ℕ) (context : Context) (count at : ℕ) (r : GdsRec) → record_at bytes at ≡ Ok r → drawn_at bytes context count r.at ≡ drawn_record bytes context count r
drawn_there bytes context count at r e = ap (drawn_told bytes context count) (ap (record_at bytes) (moves bytes at r e).at_is ∙ e)

-- what is listed behind a place draws what the elements there draw
abbrev AreListed : List ℕ → Context → Bool → ℕ → Type 0
AreListed bytes context labels at = (count : ℕ) → count ≤ 1000000 → listed_in bytes context count (drawing_places labels (items_from bytes at)) ≡ drawn_from bytes context count at

one_listed : (bytes : List ℕ) (context : Context) (labels : Bool) (at count : ℕ) (r : GdsRec) → IsQuiet labels context → record_at bytes at ≡ Ok r → count ≤ 1000000 → AreListed bytes context labels r.next → listed_in bytes context count (drawing_places labels (items_from bytes at)) ≡ drawn_from bytes context count at
one_listed bytes context labels at count r quiet e few rest = let seen = visit bytes context labels count (item_of bytes r) (items_from bytes r.next) (type_numbered r.code) quiet in elim (cases_eq r.code (number_of record_type.EndStr)) [
  | inl k ↦ ap (listed_in bytes context count) (places_there bytes labels at r e k)
      ∙ (none_listed bytes context count ∙ sym (ap (λ (t : List Item). drawn_in bytes context count (elements_of t)) (items_more bytes at r e) ∙ (rw (eq-eqb r.code (number_of record_type.EndStr) k) refl)))
  | inr other ↦ elim (cases_Bool (draws labels (type_numbered r.code) (items_from bytes r.next))) [
    | inl drawn_so ↦ ap (listed_in bytes context count) (places_more bytes labels at r e other drawn_so)
        ∙ (first_listed bytes context count r.at (drawing_places labels (items_from bytes r.next))
        ∙ (ap (λ (x : Result Progress GdsFault). x >>= λ one. listed_in bytes context (count + amount one) (drawing_places labels (items_from bytes r.next)) >>= λ rest. Ok (both one rest)) (drawn_there bytes context count at r e)
        ∙ (same_rest bytes context count (drawing_places labels (items_from bytes r.next)) (elements_of (items_from bytes r.next)) (drawn_record bytes context count r) (λ one q. seen.room one few q) rest
        ∙ sym (here bytes context count at r e other))))
    | inr not_so ↦ ap (listed_in bytes context count) (places_past bytes labels at r e other not_so)
        ∙ (rest count few
        ∙ (nothing_before bytes context count (elements_of (items_from bytes r.next))
        ∙ sym (here bytes context count at r e other ∙ ap (λ (x : Result Progress GdsFault). x >>= rest_after bytes context count (elements_of (items_from bytes r.next))) (seen.passed not_so few))))
  ]
]

none_left : (bytes : List ℕ) (context : Context) (labels : Bool) (at : ℕ) (f : RecFault) → record_at bytes at ≡ Err f → AreListed bytes context labels at
none_left bytes context labels at f e count few = ap (listed_in bytes context count) (places_end bytes labels at f e) ∙ (none_listed bytes context count ∙ sym (ap (λ (t : List Item). drawn_in bytes context count (elements_of t)) (items_end bytes at f e)))

-- from the records behind the one at a place, if there is one
listed_here : (bytes : List ℕ) (context : Context) (labels : Bool) (at : ℕ) → IsQuiet labels context → ((r : GdsRec) → record_at bytes at ≡ Ok r → AreListed bytes context labels r.next) → AreListed bytes context labels at
listed_here bytes context labels at quiet behind = by (record_at bytes at) refl
  where
    by : (x : Result GdsRec RecFault) → record_at bytes at ≡ x → AreListed bytes context labels at
    by (Err f) e = none_left bytes context labels at f e
    by (Ok r) e = λ count few. one_listed bytes context labels at count r quiet e few (behind r e)

listed_by : (n : ℕ) (bytes : List ℕ) (context : Context) (labels : Bool) (at : ℕ) → IsQuiet labels context → length bytes < n + at → AreListed bytes context labels at
listed_by zero bytes context labels at quiet enough = listed_here bytes context labels at quiet (λ r e. absurd (let w : Moves bytes at r = moves bytes at r e in omega (arith, enough, w.after, w.within)))
listed_by (suc n) bytes context labels at quiet enough = listed_here bytes context labels at quiet (λ r e. listed_by n bytes context labels r.next quiet (let w : Moves bytes at r = moves bytes at r e in omega (arith, enough, w.after)))

listed : (bytes : List ℕ) (context : Context) (labels : Bool) (at count : ℕ) → IsQuiet labels context → count ≤ 1000000 → listed_in bytes context count (drawing_places labels (items_from bytes at)) ≡ drawn_from bytes context count at
listed bytes context labels at count quiet few = listed_by (suc (length bytes)) bytes context labels at quiet (omega arith) count few

-- ---- the elements of a list, one after the other

abbrev pub listed_behind : List ℕ → Context → Progress → List ℕ → Result Progress GdsFault
listed_behind bytes context done places = with_front done (listed_in bytes context (amount done) places)

pub listed_more : (bytes : List ℕ) (context : Context) (place : ℕ) (places rest : List ℕ) (done new : Progress) (r : GdsRec) (all : Result Progress GdsFault) → places ≡ place ∷ rest → record_at bytes place ≡ Ok r → Adds (Ok tt) done new (drawn_record bytes context (amount done) r) → listed_behind bytes context done places ≡ all → listed_behind bytes context new rest ≡ all
listed_more bytes context place places rest done new r all is e adds so =
    sym (ordered_more (drawn_at bytes context) done new place rest (subst (λ (x : Result Progress GdsFault). Adds (Ok tt) done new x) (sym (ap (drawn_told bytes context (amount done)) e)) adds))
    ∙ (sym (ap (listed_behind bytes context done) is) ∙ so)

pub listed_past : (bytes : List ℕ) (context : Context) (place : ℕ) (places rest : List ℕ) (done : Progress) (f : RecFault) (all : Result Progress GdsFault) → places ≡ place ∷ rest → record_at bytes place ≡ Err f → listed_behind bytes context done places ≡ all → listed_behind bytes context done rest ≡ all
listed_past bytes context place places rest done f all is e so =
    sym (ordered_more (drawn_at bytes context) done done place rest (subst (λ (x : Result Progress GdsFault). Adds (Ok tt) done done x) (sym (ap (drawn_told bytes context (amount done)) e)) (sym (front_nothing done))))
    ∙ (sym (ap (listed_behind bytes context done) is) ∙ so)

pub listed_stops : (bytes : List ℕ) (context : Context) (place : ℕ) (places rest : List ℕ) (old done new last : Progress) (r : GdsRec) (f : GdsFault) (read : Result Progress GdsFault) → places ≡ place ∷ rest → record_at bytes place ≡ Ok r → Adds (Err f) done new (drawn_record bytes context (amount done) r) → listed_behind bytes context done places ≡ with_front old read → Adds (Err f) old last read
listed_stops bytes context place places rest old done new last r f read is e adds so =
    fault_kept f done new old last (drawn_record bytes context (amount done) r) read adds (λ same.
    front_fault old f read (sym so ∙ (ap (listed_behind bytes context done) is ∙ ap (λ (y : Result Progress GdsFault). with_front done y)
    (ordered_stops (drawn_at bytes context) (amount done) place rest f (ap (drawn_told bytes context (amount done)) e ∙ same)))))

pub listed_done : (bytes : List ℕ) (context : Context) (places : List ℕ) (old done : Progress) (read : Result Progress GdsFault) → places ≡ [] → listed_behind bytes context done places ≡ with_front old read → Adds (Ok tt) old done read
listed_done bytes context places old done read is so = adds_all old done read (sym so ∙ (ap (listed_behind bytes context done) is ∙ ordered_none (drawn_at bytes context) done))

pub ruleset listed_rules = (listed_more, listed_past, listed_stops, listed_done)

-- ---- a copy, and the structure itself

pub copied_listed : (bytes : List ℕ) (grid : Grid) (levels : ℕ) (origin : Origin) (place : ℕ) (places : List ℕ) (old mid new : Progress) (result : Result (Unit {0}) GdsFault) → (levels ≡ 0 → ⊥) → Adds (Ok tt) old mid (within_limit origin.outer (amount old) one_reference) → places ≡ drawing_places false (items_from bytes place) → Adds result mid new (listed_in bytes (context_inside grid levels origin) (amount mid) places) → Adds result old new (flat_in bytes grid levels origin (amount old) place)
copied_listed bytes grid levels origin place places old mid new result some adds is more =
    copied bytes grid levels origin place old mid new result some adds
    (subst (λ (x : Result Progress GdsFault). Adds result mid new x)
    (ap (listed_in bytes (context_inside grid levels origin) (amount mid)) is ∙ listed bytes (context_inside grid levels origin) false place (amount mid) (λ _ e. refl) (counted_room origin.outer old mid adds))
    more)

pub drawn_listed : (bytes : List ℕ) (grid : Grid) (place : ℕ) (places : List ℕ) (new : Progress) (result : Result (Unit {0}) GdsFault) → places ≡ drawing_places true (items_from bytes place) → Adds result no_progress new (listed_in bytes (own grid) 0 places) → Adds result no_progress new (drawn_from bytes (own grid) 0 place)
drawn_listed bytes grid place places new result is adds =
    subst (λ (x : Result Progress GdsFault). Adds result no_progress new x) (ap (listed_in bytes (own grid) 0) is ∙ listed bytes (own grid) true place 0 (λ not_so e. absurd (differ not_so)) (omega arith)) adds
  where
    differ : ◌≡◌ {A = Bool} true false → ⊥
    differ not_so = absurd cc

pub gives_listed : (bytes : List ℕ) (grid : Grid) (place : ℕ) (places : List ℕ) (new : Progress) → places ≡ drawing_places true (items_from bytes place) → Adds (Ok tt) no_progress new (listed_in bytes (own grid) 0 places) → Gives (Ok new.shapes) (drawn (file_of grid bytes) 0 (elements_of (items_from bytes place)))
gives_listed bytes grid place places new is adds = gives_taken bytes grid place new (drawn_listed bytes grid place places new (Ok tt) is adds)

pub ruleset read_rules = (gives_listed, gives_fault, own_context)
