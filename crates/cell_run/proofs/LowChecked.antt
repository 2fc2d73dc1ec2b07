-- What the top call owes of `check` with `--low`, from the end that the files call for and how it was told.
use Rattle.std.proofs.Common.{ℕ, ◌≡◌, ◌⊎◌, ◌↔◌, List, Option, IfSome, inl, inr, refl, sym, ap, ◌∙◌, subst}
use Rattle.cell_io.specs.Desk.{Files, View, Both}
use Rattle.turn_check.specs.declared.course.LowProved.{LowProved}
use Rattle.call_end.specs.Deliver.{Says, TellsWhole}
use Rattle.call_end.specs.End.{reports}
use Rattle.call_end.specs.declared.end.End.{End}
use Rattle.call_end.specs.declared.status.Status.{Status}
use Rattle.call_end.specs.declared.status.Status.TheVariants as status
use Rattle.call_words.specs.Words.{Form}
use Rattle.call_work.proofs.Statuses.{differ}
use Rattle.call_work.specs.Commands.{CheckingLow}
use Rattle.call_work.specs.Ends.{IsOfOutside}
use Rattle.cell_inputs.specs.Inputs.{Inputs}
use Rattle.cell_commands.specs.LowCheck.{IsTextOfTracks, LowChecksTo}
use Rattle.cell_run.proofs.Worked.{Completes, IsAnswered, done_exactly, ends_told, settles}
use Rattle.cell_run.specs.Calm.{IsCalm, IsDoneOrShort}
use Rattle.cell_run.specs.Ended.{WhereEnds}
use Rattle.cell_run.specs.Low.{HoldsTracks, IsCheckLow, IsProvedLow}

-- it is rejected with another status than Done
never_done : (end : End) (text : List ℕ) → end.status ≡ status.Done → end ≡ reports status.Rejected text → ⊥
never_done end text done is = differ status.Done status.Rejected refl (sym done ∙ ap (λ (e : End). e.status) is)

done_holds : (inputs : Inputs) (bytes : List ℕ) (end : End) → LowChecksTo inputs bytes end → end.status ≡ status.Done → (low : LowProved) × IsTextOfTracks inputs bytes low
done_holds inputs bytes end (inl (low, text, need, is)) done = (low, text)
done_holds inputs bytes end (inr (cause, some, rejects, none, is)) done = absurd (never_done end _ done is)

holds_done : (inputs : Inputs) (bytes : List ℕ) (end : End) → (low : LowProved) × IsTextOfTracks inputs bytes low → LowChecksTo inputs bytes end → end.status ≡ status.Done
holds_done inputs bytes end holds (inl (low, text, need, is)) = rw is refl
holds_done inputs bytes end (low, text) (inr (cause, some, rejects, none, is)) = absurd (none low text)

proved_so : (inputs : Inputs) (bytes : List ℕ) (end : End) (answer : Status) (old new : View) → LowChecksTo inputs bytes end → answer ≡ status.Done → TellsWhole end answer old new → IsProvedLow inputs bytes old new
proved_so inputs bytes end answer old new (inl (low, text, need, is)) done whole =
    record { low = low; accepted = text; need = need; says = subst (λ (e : End). Both (Says e.report) old.said new.said) is whole.2 }
proved_so inputs bytes end answer old new (inr (cause, some, rejects, none, is)) done whole = absurd (never_done end _ (sym whole.0 ∙ done) is)

pub low_checked_told : (a c : View) (form : Option Form) (answer : Status) (given : Option Files) → IfSome given (IsAnswered form a c answer) → IfSome given (λ files. IsCheckLow form → IsOfOutside answer ⊎ (answer ≡ status.Done ↔ HoldsTracks files form))
low_checked_told a c form answer given told = done_exactly CheckingLow (λ m. (low : LowProved) × IsTextOfTracks m.inputs m.bytes low) form answer a c given (λ m end works done. done_holds m.inputs m.bytes end works done) (λ m end holds works. holds_done m.inputs m.bytes end holds works) told

pub low_proved_told : (a c : View) (form : Option Form) (answer : Status) (given : Option Files) → IfSome given (IsAnswered form a c answer) → IfSome given (λ files. WhereEnds CheckingLow files form answer status.Done (λ m. IsProvedLow m.inputs m.bytes a c))
low_proved_told a c form answer given told = ends_told CheckingLow (λ m. IsProvedLow m.inputs m.bytes a c) form status.Done answer a c given refl (λ m end works is whole. proved_so m.inputs m.bytes end answer a c works is whole) told

pub low_accepts_told : (a c : View) (form : Option Form) (answer : Status) (given : Option Files) → IfSome given (λ files. IsCalm a c → Completes form files answer) → IfSome given (λ files. IsCalm a c → HoldsTracks files form → IsDoneOrShort answer)
low_accepts_told a c form answer given told = settles CheckingLow (λ m. (low : LowProved) × IsTextOfTracks m.inputs m.bytes low) form status.Done answer a c given (λ m end holds works. holds_done m.inputs m.bytes end holds works) told
