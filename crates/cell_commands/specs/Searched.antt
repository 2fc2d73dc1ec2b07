-- What a search for a row and its evidence results in, by the kind of evidence.
use Rattle.std.specs.Prelude.{ℕ, List}
use Rattle.cell_num.specs.declared.net.NetNo.{NetNo}
use Rattle.row_model.specs.declared.column.Column.{Column}
use Rattle.call_words.specs.declared.evidence.Evidence.{Evidence}
use Rattle.call_words.specs.declared.evidence.Evidence.TheVariants.{Log, Trails}
use Rattle.cell_inputs.specs.Inputs.{Inputs}
use Rattle.cell_make.specs.Searched as log
use Rattle.log_check.specs.Accepted.{WithKinds}
use Rattle.cell_commands.specs.declared.certificate.Certificate.{Certificate}
use Rattle.cell_commands.specs.declared.certificate.Certificate.TheVariants as held
use Rattle.cell_commands.specs.declared.searched.Searched.{Searched}
use Rattle.cell_commands.specs.declared.searched.Searched.TheVariants.{Found, Open, Crowded}
use Rattle.trail_either.specs.declared.evidence.TrailEvidence.{TrailEvidence}
use Rattle.trail_either.specs.Ended.{IsEitherCertified, IsEitherCrowded, IsEitherFound, IsEitherOpen}

-- the certificate by trails, of any version, is accepted and lists the row, and was found within the budget
abbrev pub IsFoundByTrails : Inputs → List Column → TrailEvidence → Type 0
IsFoundByTrails inputs row trails = IsEitherFound inputs.fingers inputs.tech.budget row trails

-- Its lemmas are justified, and prove that many gaps of every row. The budget is spent, or no search finds a row.
abbrev pub IsOpenByTrails : Inputs → ℕ → TrailEvidence → Type 0
IsOpenByTrails inputs proved trails = IsEitherOpen inputs.fingers inputs.tech.budget trails proved

-- the row is the first least one, with a certificate of this kind that is accepted and lists it, found within the
-- budget
abbrev pub IsFoundBy : Evidence → Inputs → List Column → Certificate → Type 0
IsFoundBy Log inputs row (held.Log found) = log.IsFound inputs row found
IsFoundBy Trails inputs row (held.Trails found) = IsFoundByTrails inputs row found
IsFoundBy _ inputs row _ = ⊥

-- the certificate is of this kind, is accepted with the gaps of the row, lists it, and a text can hold it; a log was
-- found within the budget
abbrev pub IsCertifiedBy : Evidence → Inputs → List Column → Certificate → Type 0
IsCertifiedBy Log inputs row (held.Log found) = log.IsCertified inputs row found
IsCertifiedBy Trails inputs row (held.Trails found) =
    WithKinds inputs.fingers (λ k. IsEitherCertified k inputs.fingers row found)
IsCertifiedBy _ inputs row _ = ⊥

-- the certificate is of this kind, lists no row, and proves that many gaps of every row
abbrev pub IsOpenBy : Evidence → Inputs → ℕ → Certificate → Type 0
IsOpenBy Log inputs proved (held.Log spent) = log.IsUnfinished inputs proved spent
IsOpenBy Trails inputs proved (held.Trails spent) = IsOpenByTrails inputs proved spent
IsOpenBy _ inputs proved _ = ⊥

-- The search ends at this gate, and finds no row with a certificate of any version. A search for a log never ends
-- so.
abbrev pub Crowds : Evidence → Inputs → NetNo → Type 0
Crowds Log inputs gate = ⊥
Crowds Trails inputs gate = IsEitherCrowded inputs.fingers inputs.tech.budget gate

abbrev pub IsSearched : Evidence → Inputs → Searched → Type 0
IsSearched evidence inputs (Found row certificate) = IsFoundBy evidence inputs row certificate
IsSearched evidence inputs (Open certificate proved) = IsOpenBy evidence inputs proved certificate
IsSearched evidence inputs (Crowded gate) = Crowds evidence inputs gate
