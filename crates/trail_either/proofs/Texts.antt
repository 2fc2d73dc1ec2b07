-- The text of a certificate is of its version: it is read again as that, and is the text of no other certificate.
use Rattle.std.specs.Prelude.{ℕ, Bool, true, false, ◌≡◌, ◌≢◌, ◌≤◌, List, ◌∷◌, ◌++◌, Option, Some, None, Result, Ok, Err, IfOk, length, codes}
use Rattle.std.specs.Prelude.{if◌then◌else◌}
use Rattle.std.proofs.Common.{refl, sym, ap, subst, arith, ◌∙◌}
use Rattle.std.specs.List.{flat_map}
use Rattle.row_state.specs.declared.kind.Kinds.{Kinds}
use Rattle.row_state.specs.Start.{AreSomeKinds}
use Rattle.log_lines.specs.Lines.{lines_in}
use Rattle.log_lines.proofs.Splits.{Lacks, above_lacks, fed}
use Rattle.bound_log.specs.declared.fault.LogFault.{LogFault}
use Rattle.bound_log.specs.Fits.{IsLogName}
use Rattle.bound_log.specs.Text.{best_text}
use Rattle.bound_log.proofs.Again.{by_test}
use Rattle.bound_log.proofs.Only.{err-ok, same_Ok}
use Rattle.bound_log.proofs.Whole.{fed_first}
use Rattle.trail_log.specs.declared.trails.TrailCertificate.{TrailCertificate}
use Rattle.trail_log.specs.Reading.{trails_of}
use Rattle.trail_log.specs.Text.{fill_line, lemma_line, order_line, trails_text, version_line as filled_version}
use Rattle.trail_log.proofs.Only as filled_only
use Rattle.trail_log.proofs.Whole as filled
use Rattle.order_log.specs.declared.certificate.OrderCertificate.{OrderCertificate}
use Rattle.order_log.proofs.Whole.{filled_text, text_apart}
use Rattle.pool_log.specs.declared.lemma.PoolLine.{PoolLine}
use Rattle.pool_log.specs.Text.{lemma_words, pool_text}
use Rattle.pool_log.specs.Text as pooled
use Rattle.pool_log.proofs.Lemmas.{version_lacks}
use Rattle.fewer_fingers.specs.declared.fewer.LeftOut.{LeftOut}
use Rattle.fewer_log.specs.declared.certificate.FewerCertificate.{FewerCertificate}
use Rattle.fewer_log.specs.Reading.{fewer_of}
use Rattle.fewer_log.specs.Text.{fewer_text, out_line, out_lines}
use Rattle.fewer_log.specs.Text as fewer
use Rattle.fewer_log.proofs.Whole.{few_bytes, fewer_again, fewer_only}
use Rattle.trail_either.specs.declared.evidence.TrailEvidence.{TrailEvidence}
use Rattle.trail_either.specs.declared.evidence.TrailEvidence.TheVariants.{Filled, Pools}
use Rattle.trail_either.specs.Either.{EitherFits, either_text, lemma_count}
use Rattle.trail_either.specs.Reading.{as_filled, as_pools, either_of, has_pools, names_pools}

-- ---- the first line

filled_named : (lines : List (List ℕ)) → names_pools (filled_version ∷ lines) ≡ false
filled_named lines = refl

pools_named : (lines : List (List ℕ)) → names_pools (pooled.version_line ∷ lines) ≡ true
pools_named lines = refl

fewer_named : (lines : List (List ℕ)) → names_pools (fewer.version_line ∷ lines) ≡ true
fewer_named lines = refl

no_pools : (name : List ℕ) (trails : TrailCertificate) → has_pools (trails_text name trails) ≡ false
no_pools name trails =
    let later = fed (codes "cell " ++ name) ++ (fill_line trails.fill ++ (order_line trails.order ++ (flat_map lemma_line trails.lemmas ++ (best_text trails.best ++ codes "end\n")))) in
    let version : Lacks 10 filled_version = above_lacks 31 10 filled_version (omega arith) (by_test 31 filled_version refl) in
    ap has_pools (filled.text_apart name trails) ∙ (ap names_pools (fed_first filled_version later version) ∙ filled_named (lines_in later))

some_pools : (name : List ℕ) (pools : OrderCertificate PoolLine) → has_pools (pool_text name pools) ≡ true
some_pools name pools =
    let later = fed (codes "cell " ++ name) ++ filled_text lemma_words pools in
    ap has_pools (text_apart lemma_words pooled.version_line name pools) ∙ (ap names_pools (fed_first pooled.version_line later version_lacks) ∙ pools_named (lines_in later))

some_fewer : (name : List ℕ) (c : FewerCertificate) → has_pools (fewer_text name c) ≡ true
some_fewer name c = by_out c.out
  where
    three_lacks : Lacks 10 fewer.version_line
    three_lacks = above_lacks 31 10 fewer.version_line (omega arith) (by_test 31 fewer.version_line refl)

    by_out : (out : Option LeftOut) → has_pools (out_lines out ++ pool_text name c.pools) ≡ true
    by_out None = some_pools name c.pools
    by_out (Some out) =
        let later = out_line out ++ pool_text name c.pools in
        ap names_pools (fed_first fewer.version_line later three_lacks) ∙ fewer_named (lines_in later)

-- ---- what fits is read again

-- by whether the first line names pools
abbrev by_version : Bool → List ℕ → List ℕ → Kinds → Result TrailEvidence LogFault
by_version b bytes name k = if b then as_pools (fewer_of bytes name k) else as_filled (trails_of bytes name k)

pub either_again : (name : List ℕ) (k : Kinds) (evidence : TrailEvidence) → IsLogName name → AreSomeKinds k → EitherFits k evidence → either_of (either_text name evidence) name k ≡ Ok evidence
either_again name k (Filled trails) is_name some fits =
    ap (λ (b : Bool). by_version b (trails_text name trails) name k) (no_pools name trails)
    ∙ ap as_filled (filled.read_again name k trails is_name some fits)
either_again name k (Pools c) is_name some fits =
    ap (λ (b : Bool). by_version b (fewer_text name c) name k) (some_fewer name c)
    ∙ ap as_pools (fewer_again name k c is_name some fits)

-- so is a text that was written
pub written_again : {V E : Type 0} (r : Result V E) (items : V → List ℕ) (name : List ℕ) (evidence : TrailEvidence) → IsLogName name → IfOk r (λ v. items v ≡ either_text name evidence) → IfOk r (λ v. (k : Kinds) → AreSomeKinds k → EitherFits k evidence → either_of (items v) name k ≡ Ok evidence)
written_again (Ok v) items name evidence is_name is = λ k some fits.
    ap (λ (t : List ℕ). either_of t name k) is ∙ either_again name k evidence is_name some fits
written_again (Err e) items name evidence is_name is = tt

-- no certificate that fits has a text that is refused
pub either_refused : (bytes name : List ℕ) (k : Kinds) (f : LogFault) (evidence : TrailEvidence) → IsLogName name → AreSomeKinds k → either_of bytes name k ≡ Err f → EitherFits k evidence → either_text name evidence ≢ bytes
either_refused bytes name k f evidence is_name some h fits same =
    err-ok f evidence (sym h ∙ (ap (λ (t : List ℕ). either_of t name k) (sym same) ∙ either_again name k evidence is_name some fits))

-- no other certificate that fits has the text
pub either_one : (bytes name : List ℕ) (k : Kinds) (evidence other : TrailEvidence) → IsLogName name → AreSomeKinds k → either_of bytes name k ≡ Ok evidence → EitherFits k other → either_text name other ≡ bytes → other ≡ evidence
either_one bytes name k evidence other is_name some h fits same =
    same_Ok other evidence (sym (either_again name k other is_name some fits) ∙ (ap (λ (t : List ℕ). either_of t name k) same ∙ h))

-- ---- what is read

was_filled : (r : Result TrailCertificate LogFault) (evidence : TrailEvidence) → as_filled r ≡ Ok evidence → (trails : TrailCertificate) × (r ≡ Ok trails) × (evidence ≡ Filled trails)
was_filled (Ok trails) evidence h = (trails, refl, sym (same_Ok (Filled trails) evidence h))
was_filled (Err f) evidence h = absurd (err-ok f evidence h)

had_pools : (r : Result FewerCertificate LogFault) (evidence : TrailEvidence) → as_pools r ≡ Ok evidence → (c : FewerCertificate) × (r ≡ Ok c) × (evidence ≡ Pools c)
had_pools (Ok c) evidence h = (c, refl, sym (same_Ok (Pools c) evidence h))
had_pools (Err f) evidence h = absurd (err-ok f evidence h)

abbrev IsTextOf : List ℕ → List ℕ → Kinds → TrailEvidence → Type 0
IsTextOf bytes name k evidence = EitherFits k evidence × (bytes ≡ either_text name evidence)

only_by : (b : Bool) (bytes name : List ℕ) (k : Kinds) (evidence : TrailEvidence) → AreSomeKinds k → by_version b bytes name k ≡ Ok evidence → IsTextOf bytes name k evidence
only_by true bytes name k evidence some h =
    let (c, read, is) = had_pools (fewer_of bytes name k) evidence h in
    let only : IsTextOf bytes name k (Pools c) = fewer_only bytes name k c some.few_nets read in
    subst (IsTextOf bytes name k) (sym is) only
only_by false bytes name k evidence some h =
    let (trails, read, is) = was_filled (trails_of bytes name k) evidence h in
    let only : IsTextOf bytes name k (Filled trails) = filled_only.read_only bytes name k trails read in
    subst (IsTextOf bytes name k) (sym is) only

-- what is read fits, and its text is what was read
pub either_only : (bytes name : List ℕ) (k : Kinds) (evidence : TrailEvidence) → AreSomeKinds k → either_of bytes name k ≡ Ok evidence → EitherFits k evidence × (bytes ≡ either_text name evidence)
either_only bytes name k evidence some h = only_by (has_pools bytes) bytes name k evidence some h

-- each lemma takes a byte at least
pub few_lemmas : (bytes name : List ℕ) (evidence : TrailEvidence) → bytes ≡ either_text name evidence → lemma_count evidence ≤ length bytes
few_lemmas bytes name (Filled trails) is = filled.few_lemmas bytes name trails is
few_lemmas bytes name (Pools c) is = few_bytes bytes name c is
