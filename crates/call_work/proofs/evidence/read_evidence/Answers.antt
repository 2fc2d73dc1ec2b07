use Rattle.std.proofs.Common.{ℕ, List, Result, refl, subst}
use Rattle.call_read.specs.Read.{IsRead}
use Rattle.call_read.specs.Sources.{TrailFile}
use Rattle.call_read.specs.declared.refusal.Refusal.{Refusal}
use Rattle.call_work.proofs.evidence.read_evidence.Goals as goal

pub returns-in-Ok-clause-read : goal.returns-in-Ok-clause-read
returns-in-Ok-clause-read g c = rw c.in-Log.is c.in-Ok.ensures.read

pub returns-in-Err-clause-refused : goal.returns-in-Err-clause-refused
returns-in-Err-clause-refused g c = rw c.in-Log.is c.in-Err.ensures.refused

pub returns-in-Ok-read_file-clause-read : goal.returns-in-Ok-read_file-clause-read
returns-in-Ok-read_file-clause-read g c =
    rw c.in-Trails.is (
      c.in-Ok-read_file.bytes,
      subst (λ (read : Result (List ℕ) Refusal). IsRead (g.D.Desk.view c.args.desk.now) (g.D.Desk.view c.read_file.new.desk) (TrailFile c.args.file.now) read) c.in-Ok-read_file.is c.read_file.ensures.reads,
      refl,
    )

pub returns-in-Err-read_file-clause-refused : goal.returns-in-Err-read_file-clause-refused
returns-in-Err-read_file-clause-refused g c =
    rw c.in-Trails.is (subst (λ (read : Result (List ℕ) Refusal). IsRead (g.D.Desk.view c.args.desk.now) (g.D.Desk.view c.read_file.new.desk) (TrailFile c.args.file.now) read) c.in-Err-read_file.is c.read_file.ensures.reads)
