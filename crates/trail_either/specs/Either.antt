-- What a certificate by trails lists, its text, and whether a text can hold it.
use Rattle.std.specs.Prelude.{ℕ, List, Option, length}
use Rattle.row_state.specs.declared.kind.Kinds.{Kinds}
use Rattle.bound_log.specs.declared.log.Best.{Best}
use Rattle.trail_log.specs.Fits.{TrailsFit}
use Rattle.trail_log.specs.Listing.{trails_listing}
use Rattle.trail_log.specs.Text.{trails_text}
use Rattle.fewer_log.specs.Fits.{FewerFits}
use Rattle.fewer_log.specs.Listing.{listing}
use Rattle.fewer_log.specs.Text.{fewer_text}
use Rattle.trail_either.specs.declared.evidence.TrailEvidence.{TrailEvidence}
use Rattle.trail_either.specs.declared.evidence.TrailEvidence.TheVariants.{Filled, Pools}

abbrev pub lemma_count : TrailEvidence → ℕ
lemma_count (Filled trails) = length trails.lemmas
lemma_count (Pools c) = length c.pools.lemmas

-- how many gates it lists as filled
abbrev pub fill_count : TrailEvidence → ℕ
fill_count (Filled trails) = length trails.fill
fill_count (Pools c) = length c.pools.fill

-- the row that it lists
abbrev pub best_in : TrailEvidence → Option Best
best_in (Filled trails) = trails.best
best_in (Pools c) = c.pools.best

-- the same with this row in place of its own
abbrev pub either_listing : TrailEvidence → Best → TrailEvidence
either_listing (Filled trails) best = Filled (trails_listing trails best)
either_listing (Pools c) best = Pools (listing c best)

-- a text can hold it
abbrev pub EitherFits : Kinds → TrailEvidence → Type 0
EitherFits k (Filled trails) = TrailsFit k trails
EitherFits k (Pools c) = FewerFits k c

abbrev pub either_text : List ℕ → TrailEvidence → List ℕ
either_text name (Filled trails) = trails_text name trails
either_text name (Pools c) = fewer_text name c
