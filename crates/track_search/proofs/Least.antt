-- What a certificate for one track less shows of rows and of their routings.
use Rattle.std.proofs.Common.{ℕ, zero, suc, ◌<◌, ◌≤◌, List, [], length, map, refl, sym, subst, arith}
use Rattle.std.proofs.lemmas.List.Sorted.{IsPermutation-refl}
use Rattle.cell_num.specs.declared.finger.Fingers.{Fingers}
use Rattle.cell_num.specs.declared.finger.Row.{Row}
use Rattle.cell_num.specs.declared.net.NetNo.{NetNo}
use Rattle.cell_num.specs.declared.net.Pins.{Pins}
use Rattle.row_model.specs.declared.column.Column.{Column}
use Rattle.row_model.specs.Arrangement.{IsArrangement}
use Rattle.row_model.specs.Gaps.{gaps_of}
use Rattle.row_place.specs.Places.{placement_of}
use Rattle.channel_route.specs.declared.routing.Trunk.{Trunk}
use Rattle.channel_route.specs.Routing.{IsLegal}
use Rattle.channel_route.specs.Wiring.{wiring_of}
use Rattle.row_state.specs.declared.kind.Kinds.{Kinds}
use Rattle.row_state.specs.declared.state.State.{State}
use Rattle.row_state.specs.Completion.{Completes, left_in}
use Rattle.row_state.specs.Start.{AreKinds, AreSomeKinds, start_of}
use Rattle.row_state.specs.Steps.{column_of}
use Rattle.row_state.proofs.Valid.{gates_are_nets}
use Rattle.track_ways.specs.Channel.{AreTrunks}
use Rattle.track_ways.specs.StraightLaw.{straight_rule}
use Rattle.track_ways.specs.Lines.{Fits, StraightFits, is_ahead}
use Rattle.track_ways.specs.Rows.{lines_of_row}
use Rattle.track_ways.proofs.Failing.{found}
use Rattle.track_ways.proofs.Path.{StepsOf, steps_of}
use Rattle.track_ways.proofs.Whole.{legal_path}
use Rattle.track_ways.specs.declared.lemma.TrackLemma.{TrackLemma}
use Rattle.track_ways.proofs.Sound.{Holds, certified, start_fails_by}
use Rattle.track_search.specs.declared.fewest.Fewest.{Fewest}
use Rattle.track_search.specs.declared.fewest.Fewest.TheVariants as fewest
use Rattle.track_search.specs.declared.limit.Limit.{Limit}
use Rattle.track_search.specs.declared.limit.Limit.TheVariants as ended
use Rattle.track_search.specs.Fewest.{AreLegalTracks, HasLegalTracks, IsFewest, Prove, TakeAtLeast, TakeTracks}
use Rattle.track_search.specs.Limit.{IsEnd, IsFirstRow, NeedsMoreTracks}

pub end_more : (value : Row → State → Kinds → ℕ) (pins : Pins) (limit : ℕ) (k : Kinds) (gaps : ℕ) (e : Limit) → AreSomeKinds k → Holds value k → IsEnd value pins limit k gaps e → NeedsMoreTracks pins limit k gaps e
end_more value pins limit k gaps (ended.Found row) some law h = tt
end_more value pins limit k gaps (ended.Refuted lemmas) some law h = λ f row r kinds is few legal. certified value pins f k limit gaps lemmas law kinds some h row r is few legal
end_more value pins limit k gaps ended.Spent some law h = tt

take_least : (value : Row → State → Kinds → ℕ) (pins : Pins) (k : Kinds) (gaps tracks : ℕ) (lemmas : List TrackLemma) → AreSomeKinds k → Holds value k → Prove value pins k gaps tracks lemmas → TakeAtLeast pins k gaps tracks
take_least value pins k gaps zero lemmas some law h f row r kinds is few legal = omega arith
take_least value pins k gaps (suc limit) lemmas some law h f row r kinds is few legal =
    let more : limit < r.tracks = certified value pins f k limit gaps lemmas law kinds some (h limit (omega arith)) row r is few legal in
    omega (arith, more)

pub take_tracks : (value : Row → State → Kinds → ℕ) (pins : Pins) (k : Kinds) (gaps : ℕ) (e : Fewest) → AreSomeKinds k → Holds value k → IsFewest value pins k gaps e → TakeTracks pins k gaps e
take_tracks value pins k gaps (fewest.Found row tracks lemmas) some law h = take_least value pins k gaps tracks lemmas some law h.proved
take_tracks value pins k gaps (fewest.Open proved lemmas) some law h = take_least value pins k gaps proved lemmas some law h

-- an arrangement of the fingers of the kinds is a completion of the start
pub whole_row : (k : Kinds) (row : List Column) → ((f : Fingers) → AreKinds f k → IsArrangement row f) → Completes k (start_of k) row
whole_row k row arranges = arranges (left_in k (start_of k)) (record { nets = refl; p = IsPermutation-refl _; n = IsPermutation-refl _ })

legal_steps : (value : Row → State → Kinds → ℕ) (pins : Pins) (k : Kinds) (gaps tracks : ℕ) (row : List Column) (lemmas : List TrackLemma) (steps : StepsOf k (start_of k) row) → AreSomeKinds k → Holds value k → Prove value pins k gaps tracks lemmas → length (map (column_of k) steps.steps) ≤ 32 → gaps_of (map (column_of k) steps.steps) ≤ gaps → (track : NetNo → ℕ) → Fits pins tracks track (is_ahead []) (lines_of_row (map (column_of k) steps.steps)) → (trunks : List Trunk) → AreTrunks (placement_of (map (column_of k) steps.steps)) pins track trunks → IsLegal (placement_of (map (column_of k) steps.steps)) pins (wiring_of tracks trunks)
legal_steps value pins k gaps zero row lemmas steps some law h short few track fits trunks are =
    legal_path pins k steps.steps zero track trunks (gates_are_nets k some) steps.leads short fits (λ other fewer less. absurd (omega (arith, less))) are
legal_steps value pins k gaps (suc limit) row lemmas steps some law h short few track fits trunks are =
    found pins k limit gaps (λ net. 0) track steps.steps trunks (gates_are_nets k some) (start_fails_by StraightFits straight_rule.again value pins k limit gaps lemmas (λ net. 0) law some (h limit (omega arith))) steps.leads short few fits are

legal_row : (value : Row → State → Kinds → ℕ) (pins : Pins) (k : Kinds) (gaps tracks : ℕ) (row : List Column) (lemmas : List TrackLemma) → AreSomeKinds k → Holds value k → IsFirstRow pins tracks k gaps row → Prove value pins k gaps tracks lemmas → HasLegalTracks pins row tracks
legal_row value pins k gaps tracks row lemmas some law first proved =
    let whole : Completes k (start_of k) row = whole_row k row first.arranges in
    let steps : StepsOf k (start_of k) row = steps_of k (start_of k) row whole in
    let short : length row ≤ 32 = omega (arith, whole.fewest, some.few_columns) in
    record {
      track = first.tracks.track;
      legal = subst (λ cs. (trunks : List Trunk) → AreTrunks (placement_of cs) pins first.tracks.track trunks → IsLegal (placement_of cs) pins (wiring_of tracks trunks)) steps.is
          (legal_steps value pins k gaps tracks row lemmas steps some law proved (subst (λ cs. length cs ≤ 32) (sym steps.is) short) (subst (λ cs. gaps_of cs ≤ gaps) (sym steps.is) first.within)
          first.tracks.track (subst (λ cs. Fits pins tracks first.tracks.track (is_ahead []) (lines_of_row cs)) (sym steps.is) first.tracks.fits));
    }

pub legal_tracks : (value : Row → State → Kinds → ℕ) (pins : Pins) (k : Kinds) (gaps : ℕ) (e : Fewest) → AreSomeKinds k → Holds value k → IsFewest value pins k gaps e → AreLegalTracks pins e
legal_tracks value pins k gaps (fewest.Found row tracks lemmas) some law h = legal_row value pins k gaps tracks row lemmas some law h.first h.proved
legal_tracks value pins k gaps (fewest.Open proved lemmas) some law h = tt
