-- The whole text: what the draft comes to is the macro of the definition.
use Rattle.std.proofs.Common.{ℕ, ◌≡◌, List, [], refl, sym, ap, ◌∙◌}
use Rattle.std.specs.Prelude.{Option, Some, None, Result, Ok, Err, ◌≢◌, IfErr}
use Rattle.std.specs.Result.{IsErrAnd}
use Rattle.cell_num.specs.Steps.{◌>>=◌, or_fault}
use Rattle.lef_read.specs.Tokens.{Token, tokens_from}
use Rattle.lef_read.specs.Reading.{Item, At, InLibrary, read}
use Rattle.lef_read.specs.Macros.{items_of, macro_of, macro_named, macro_in}
use Rattle.lef_read.specs.Drafts.{Draft, begun, closed, completed, outcome, Keeps}
use Rattle.lef_read.specs.declared.fault.LefFault.{LefFault}
use Rattle.lef_read.specs.declared.fault.LefFault.TheVariants as fault
use Rattle.lef_read.specs.declared.cell.Macro.{Macro}
use Rattle.lef_read.proofs.Places.{Items}

begun_completes : (name : List ℕ) (unit : ℕ) (items : List Item) → macro_named unit name items ≡ completed (begun name unit) items
unfolding completed
begun_completes name unit items = by (items_of name items)
  where
    by : (o : Option (List Item)) → (or_fault o fault.NoMacro >>= λ own. macro_of unit name own) ≡ (or_fault o fault.NoMacro >>= λ own. closed None (begun name unit) own)
    by None = refl
    by (Some own) = refl

pub whole : (bytes name : List ℕ) (unit : ℕ) → macro_in bytes name unit ≡ outcome (begun name unit) (read (At InLibrary) (tokens_from 1 bytes))
unfolding macro_in outcome
whole bytes name unit = by (read (At InLibrary) (tokens_from 1 bytes))
  where
    by : (items : Items) → (items >>= λ is. macro_named unit name is) ≡ (items >>= λ is. completed (begun name unit) is)
    by (Ok is) = begun_completes name unit is
    by (Err f) = refl

-- the library was refused
pub refused_so : (bytes name : List ℕ) (unit : ℕ) (d : Draft) (ts : List Token) (f : LefFault) (after : Result Macro LefFault) → d ≡ begun name unit → ts ≡ tokens_from 1 bytes → Keeps (Err f) (outcome d (read (At InLibrary) ts)) after → f ≢ fault.NoMemory → macro_in bytes name unit ≡ Err f
refused_so bytes name unit d ts f after e g k more = is_whole f (whole bytes name unit ∙ rw (e, g) refl) k more
  where
    is_whole : (f : LefFault) → macro_in bytes name unit ≡ outcome d (read (At InLibrary) ts) → Keeps (Err f) (outcome d (read (At InLibrary) ts)) after → f ≢ fault.NoMemory → macro_in bytes name unit ≡ Err f
    is_whole (fault.Statement n) w k more = w ∙ k
    is_whole (fault.Number n) w k more = w ∙ k
    is_whole fault.Cut w k more = w ∙ k
    is_whole fault.NoMacro w k more = w ∙ k
    is_whole (fault.Grid n) w k more = w ∙ k
    is_whole fault.NoMemory w k more = absurd (more refl)

-- it was taken whole
pub comes_to : (bytes name : List ℕ) (unit : ℕ) (d e : Draft) (ts : List Token) (r : Result Macro LefFault) → d ≡ begun name unit → ts ≡ tokens_from 1 bytes → outcome d (read (At InLibrary) ts) ≡ outcome e (Ok []) → completed e [] ≡ r → macro_in bytes name unit ≡ r
unfolding outcome
comes_to bytes name unit d e ts r f g same end = whole bytes name unit ∙ ((ap (λ (x : Draft). outcome x (read (At InLibrary) (tokens_from 1 bytes))) (sym f) ∙ ap (λ (us : List Token). outcome d (read (At InLibrary) us)) (sym g)) ∙ (same ∙ end))

-- the exit of a `?`
pub exit : (r : Result Macro LefFault) (f : LefFault) (x : Result Macro LefFault) → IsErrAnd r (λ y. y ≡ f) → (f ≢ fault.NoMemory → x ≡ Err f) → IfErr r (λ y. y ≢ fault.NoMemory → x ≡ Err y)
exit (Ok m) f x h k = absurd h
exit (Err y) f x h k = rw h k
