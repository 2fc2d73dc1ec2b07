-- What a certificate shows of rows, by any rule of how tracks go through a line.
use Rattle.std.proofs.Common.{ℕ, zero, suc, ◌≡◌, ◌+◌, List, [], map, ap, inl, inr, subst, arith}
use Rattle.std.proofs.lemmas.Bool.{cases_lt}
use Rattle.cell_num.specs.declared.finger.Row.{Row}
use Rattle.cell_num.specs.declared.net.Pins.{Pins}
use Rattle.row_model.specs.Gaps.{gaps_of}
use Rattle.row_state.specs.declared.kind.Kinds.{Kinds}
use Rattle.row_state.specs.declared.state.State.{State}
use Rattle.row_state.specs.Start.{AreSomeKinds, start_of}
use Rattle.row_state.specs.Steps.{column_of}
use Rattle.row_state.proofs.Unfold.{completion_of, gaps_from_start}
use Rattle.track_ways.specs.declared.lemma.TrackLemma.{TrackLemma}
use Rattle.track_ways.specs.Certificate.{CertifiesBy}
use Rattle.track_ways.specs.Lines.{LineRule, is_ahead}
use Rattle.track_ways.specs.Rules.{IsRule}
use Rattle.track_ways.specs.Ways.{LineWays}
use Rattle.track_ways.specs.Rows.{lines_of_row}
use Rattle.track_ways.proofs.LineParts.{sweeps_wider}
use Rattle.track_ways.proofs.Path.{StepsOf, steps_of}
use Rattle.track_ways.proofs.Sound.{Holds, start_fails_by}
use Rattle.track_search.specs.declared.fewest.Fewest.{Fewest}
use Rattle.track_search.specs.declared.fewest.Fewest.TheVariants as fewest
use Rattle.track_search.specs.declared.limit.Limit.{Limit}
use Rattle.track_search.specs.declared.limit.Limit.TheVariants as ended
use Rattle.track_search.specs.FewestBy.{IsFewestBy, ProveBy, TakeAtLeastBy, TakeTracksBy}
use Rattle.track_search.specs.LimitBy.{IfRefutedBy, IsEndBy, NoneHasTracks}
use Rattle.track_search.proofs.Starts.{runs_of_tracks}

none_has_tracks : {rule : LineRule} {listing : LineWays} (r : IsRule rule listing) (value : Row → State → Kinds → ℕ) (pins : Pins) (limit : ℕ) (k : Kinds) (gaps : ℕ) (lemmas : List TrackLemma) → AreSomeKinds k → Holds value k → CertifiesBy rule value pins limit k gaps lemmas → NoneHasTracks rule pins limit k gaps
none_has_tracks {rule} r value pins limit k gaps lemmas some law h f row kinds is few has =
    let steps : StepsOf k (start_of k) row = steps_of k (start_of k) row (completion_of f k row kinds is) in
    start_fails_by rule r.again value pins k limit gaps lemmas has.track law some h steps.steps steps.leads
    (omega (arith, gaps_from_start k (map (column_of k) steps.steps), ap gaps_of steps.is, few))
    (runs_of_tracks rule pins limit k row steps has some)

pub end_refuted : {rule : LineRule} {listing : LineWays} (r : IsRule rule listing) (value : Row → State → Kinds → ℕ) (pins : Pins) (limit : ℕ) (k : Kinds) (gaps : ℕ) (e : Limit) → AreSomeKinds k → Holds value k → IsEndBy rule value pins limit k gaps e → IfRefutedBy rule pins limit k gaps e
end_refuted r value pins limit k gaps (ended.Found row) some law h = tt
end_refuted r value pins limit k gaps (ended.Refuted lemmas) some law h = none_has_tracks r value pins limit k gaps lemmas some law h
end_refuted r value pins limit k gaps ended.Spent some law h = tt

-- ---- from limit to limit

pub prove_none : (rule : LineRule) (value : Row → State → Kinds → ℕ) (pins : Pins) (k : Kinds) (gaps : ℕ) (lemmas : List TrackLemma) → ProveBy rule value pins k gaps 0 lemmas
prove_none rule value pins k gaps lemmas limit e = absurd (omega (arith, e))

pub prove_more : (rule : LineRule) (value : Row → State → Kinds → ℕ) (pins : Pins) (limit : ℕ) (k : Kinds) (gaps : ℕ) (lemmas : List TrackLemma) → CertifiesBy rule value pins limit k gaps lemmas → ProveBy rule value pins k gaps (limit + 1) lemmas
prove_more rule value pins limit k gaps lemmas h other e = let same : limit ≡ other = omega (arith, e) in subst (λ n. CertifiesBy rule value pins n k gaps lemmas) same h

-- tracks below a lower limit would be tracks below the one that has none
take_least : {rule : LineRule} {listing : LineWays} (r : IsRule rule listing) (value : Row → State → Kinds → ℕ) (pins : Pins) (k : Kinds) (gaps tracks : ℕ) (lemmas : List TrackLemma) → AreSomeKinds k → Holds value k → ProveBy rule value pins k gaps tracks lemmas → TakeAtLeastBy rule pins k gaps tracks
take_least r value pins k gaps zero lemmas some law h f row limit kinds is few has = omega arith
take_least {rule} r value pins k gaps (suc below) lemmas some law h f row limit kinds is few has = elim (cases_lt below limit) [
  | inl more ↦ omega (arith, more)
  | inr le ↦ absurd (none_has_tracks r value pins below k gaps lemmas some law (h below (omega arith)) f row kinds is few (record {
    track = has.track;
    sweeps = sweeps_wider rule r.wider pins limit below (is_ahead []) has.track (lines_of_row row) le has.sweeps;
  }))
]

pub take_tracks : {rule : LineRule} {listing : LineWays} (r : IsRule rule listing) (value : Row → State → Kinds → ℕ) (pins : Pins) (k : Kinds) (gaps : ℕ) (e : Fewest) → AreSomeKinds k → Holds value k → IsFewestBy rule value pins k gaps e → TakeTracksBy rule pins k gaps e
take_tracks r value pins k gaps (fewest.Found row tracks lemmas) some law h = take_least r value pins k gaps tracks lemmas some law h.proved
take_tracks r value pins k gaps (fewest.Open proved lemmas) some law h = take_least r value pins k gaps proved lemmas some law h
