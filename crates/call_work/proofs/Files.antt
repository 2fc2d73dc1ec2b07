-- What holds of a file of evidence, whatever it was read as.
use Rattle.std.proofs.Common.{ℕ, List, Result, Ok, Err, IfOk, subst}
use Rattle.cell_num.specs.declared.list.NoMemory.{NoMemory}
use Rattle.call_end.specs.declared.end.End.{End}
use Rattle.call_words.specs.declared.evidence.Evidence.{Evidence}
use Rattle.call_words.specs.declared.evidence.Evidence.TheVariants.{Log, Trails}
use Rattle.call_work.specs.Commands.{OfFile}
use Rattle.call_work.specs.Evidence.{IsReadAs}
use Rattle.call_work.specs.declared.material.EvidenceFile.TheVariants as held
use Rattle.cell_inputs.specs.Inputs.{Inputs}
use Rattle.cell_commands.specs.LogRead.{AreBehindAll}
use Rattle.cell_commands.specs.declared.checked_log.CheckedLog.{CheckedLog}

pub of_log : (inputs : Inputs) (log : CheckedLog) (Says : Evidence → List ℕ → End → Type 0) (r : Result End NoMemory) → IfOk r (λ end. (bytes : List ℕ) → AreBehindAll inputs bytes log.reader log.checker → Says Log bytes end) → IfOk r (λ end. OfFile inputs (held.Log log) (λ evidence bytes. Says evidence bytes end))
of_log inputs log Says (Err e) h = tt
of_log inputs log Says (Ok end) h = each
  where
    each : (evidence : Evidence) (bytes : List ℕ) → IsReadAs evidence inputs bytes (held.Log log) → Says evidence bytes end
    each Log bytes behind = h bytes behind
    each Trails bytes none = absurd none

pub of_trails : (inputs : Inputs) (kept : List ℕ) (Says : Evidence → List ℕ → End → Type 0) (r : Result End NoMemory) → IfOk r (Says Trails kept) → IfOk r (λ end. OfFile inputs (held.Trails kept) (λ evidence bytes. Says evidence bytes end))
of_trails inputs kept Says (Err e) h = tt
of_trails inputs kept Says (Ok end) h = each
  where
    each : (evidence : Evidence) (bytes : List ℕ) → IsReadAs evidence inputs bytes (held.Trails kept) → Says evidence bytes end
    each Trails bytes same = subst (λ (x : List ℕ). Says Trails x end) same h
    each Log bytes none = absurd none
