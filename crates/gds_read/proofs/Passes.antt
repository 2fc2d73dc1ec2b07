-- The pass over the records, a record at a time.
use Rattle.std.proofs.Common.{ℕ, ◌≡◌, List, Result, Ok, Err, refl}
use Rattle.gds_record.specs.declared.record.GdsRec.{GdsRec}
use Rattle.gds_record.specs.declared.record.RecFault.{RecFault}
use Rattle.gds_record.specs.Records.{item_of, record_at}
use Rattle.gds_record.proofs.Walks.{from_step}
use Rattle.gds_area.specs.declared.fault.GdsFault.{GdsFault}
use Rattle.gds_read.specs.declared.grammar.Place.{Place}
use Rattle.gds_read.specs.declared.grammar.Place.TheVariants.{Start, Opened, Library, Naming, Structure, Element, Ended}
use Rattle.gds_read.specs.Grammar.{pass, pass_from, step_of, zeros_behind, goes_on}
use Rattle.gds_area.specs.Faults.{as_fault}

pub pass_stops : (bytes : List ℕ) (place : Place) (at : ℕ) (f : RecFault) → record_at bytes at ≡ Err f → pass_from bytes place at ≡ Err (as_fault f)
unfolding pass
pass_stops bytes place at f e = rw (from_step bytes at, e) refl

pub pass_fails : (bytes : List ℕ) (place : Place) (at : ℕ) (r : GdsRec) (f : GdsFault) → record_at bytes at ≡ Ok r → step_of place (item_of bytes r) ≡ Err f → pass_from bytes place at ≡ Err f
unfolding pass
pass_fails bytes place at r f e s = rw (from_step bytes at, e, s) refl

pub pass_ends : (bytes : List ℕ) (place : Place) (at : ℕ) (r : GdsRec) → record_at bytes at ≡ Ok r → step_of place (item_of bytes r) ≡ Ok Ended → pass_from bytes place at ≡ zeros_behind bytes r.next
unfolding pass
pass_ends bytes place at r e s = rw (from_step bytes at, e, s) refl

others : (next : Place) (a b : Result ℕ GdsFault) → (next ≡ Ended → ⊥) → goes_on next a b ≡ b
others Start a b not = refl
others Opened a b not = refl
others (Library named units structures) a b not = refl
others Naming a b not = refl
others Structure a b not = refl
others (Element kind seen) a b not = refl
others Ended a b not = absurd (not refl)

pub pass_goes : (bytes : List ℕ) (place : Place) (at : ℕ) (r : GdsRec) (next : Place) → record_at bytes at ≡ Ok r → step_of place (item_of bytes r) ≡ Ok next → (next ≡ Ended → ⊥) → pass_from bytes place at ≡ pass_from bytes next r.next
unfolding pass
pass_goes bytes place at r next e s not = rw (from_step bytes at, e, s) (others next (zeros_behind bytes r.next) (pass_from bytes next r.next) not)

pub ruleset pass_rules = (pass_stops, pass_fails, pass_ends, pass_goes)
