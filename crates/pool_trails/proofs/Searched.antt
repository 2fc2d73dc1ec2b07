-- What is found along the order of the gates, as a certificate.
use Rattle.std.specs.Prelude.{ℕ, ◌≡◌, ◌≢◌, ◌≤◌, All, List, [], None, Some, codes, length, map}
use Rattle.std.proofs.Common.{refl, sym, ap, subst, arith, ◌∙◌}
use Rattle.std.proofs.lemmas.Option.{none-some}
use Rattle.cell_num.specs.declared.finger.Fingers.{Fingers}
use Rattle.cell_num.specs.declared.net.NetNo.{NetNo}
use Rattle.cell_num.specs.Fingers.{AreFingers}
use Rattle.row_state.specs.declared.kind.Kinds.{Kinds}
use Rattle.trail_state.specs.Levels.{IsOrder}
use Rattle.open_gates.specs.declared.gates.OpenGates.{OpenGates}
use Rattle.open_gates.specs.Open.{open_in}
use Rattle.trail_search.proofs.Orders.{order_short}
use Rattle.trail_pools.specs.declared.level.PoolLevel.{PoolLevel}
use Rattle.trail_pools.specs.declared.pools.Pools.{Pools}
use Rattle.trail_pools.specs.declared.state.PoolState.{PoolState}
use Rattle.trail_pools.specs.Leveled.{levels_of, pools_of}
use Rattle.trail_pools.specs.State.{start}
use Rattle.end_lemmas.specs.declared.lemma.EndLemma.{EndLemma}
use Rattle.end_lemmas.specs.Justified.{AreJustified, IsUnproved}
use Rattle.end_search.specs.declared.proof.EndProof.{EndProof}
use Rattle.end_search.specs.Proof.{IsEndProof}
use Rattle.order_log.specs.declared.certificate.OrderCertificate.{OrderCertificate}
use Rattle.pool_log.specs.declared.lemma.PoolLine.{PoolLine}
use Rattle.pool_log.specs.Fits.{PoolsFit}
use Rattle.pool_log.specs.Text.{pool_text}
use Rattle.pool_check.specs.declared.along.PoolOrder.{PoolOrder}
use Rattle.pool_check.specs.declared.refusal.PoolRefusal.{PoolRefusal}
use Rattle.pool_check.specs.declared.refusal.PoolRefusal.TheVariants as cause
use Rattle.pool_check.specs.Accepted.{HasFewWays, first_with_many}
use Rattle.pool_check.specs.Refusal.{Refuses}
use Rattle.pool_check.specs.Along.{IsAlong}
use Rattle.pool_check.specs.Stepping.{pool_steps, steps_of}
use Rattle.pool_lines.specs.Texts.{IsTextOfState}
use Rattle.pool_certificate.specs.Accepted.{AreTexts, HasFewWaysOf, lemmas_along, lemmas_of, open_of}
use Rattle.pool_trails.specs.declared.found.PoolStop.{PoolStop}
use Rattle.pool_trails.specs.declared.gates.PoolGates.{PoolGates}
use Rattle.pool_trails.specs.Ended.{HasManyOpen, IsSearched, IsUnlisted}
use Rattle.pool_trails.specs.Found.{IsPrunedProof, IsFoundAlong, certificate_of, line_at}
use Rattle.pool_trails.specs.Inner.{ArePoolGates, AreUnlistedAlong, IsPoolProof, ListAlong, Stops, lined, stop_of}
use Rattle.pool_trails.specs.Opening.{fill_by, is_uncrowded, opened_of}
use Rattle.pool_trails.proofs.Filled.{is_fill}
use Rattle.pool_trails.proofs.Lists.{texts_of}

abbrev with_lines : List NetNo → List NetNo → List PoolLine → OrderCertificate PoolLine
with_lines fill order lines = record { fill = fill; order = order; lemmas = lines; best = None }

module _ (f : Fingers) (gates : PoolGates) (g : ArePoolGates f gates) where
  -- few gates
  pub few_gates : AreFingers f → length gates.order ≤ 256
  few_gates ok = omega (arith, order_short f gates.order ok g.is)

  many_at : (why : PoolRefusal)
      → (why ≢ cause.NoMemory → (lemmas : List (EndLemma PoolState)) → Refuses f gates.opened gates.order lemmas why)
      → Stops (HasManyOpen gates.opening f) (stop_of why)
  many_at cause.Order h = absurd (h (λ e. cc) [] g.is)
  many_at (cause.Choices gate) h = record {
    order = gates.order;
    is = g.is;
    gate = gate;
    first = subst (λ (o : OpenGates). first_with_many f o gates.order ≡ Some gate) g.open_are (h (λ e. cc) []).1;
  }
  many_at (cause.Unproved at) h =
      let none : IsUnproved (steps_of f gates.opened) (levels_of f gates.opened gates.order) [] at =
      (h (λ e. cc) []).2 in
      absurd (none-some none.lemma none.there)
  many_at cause.NoMemory h = tt

  -- no lemmas can be checked along the order, whatever they are
  pub many_open : (why : PoolRefusal) (stop : PoolStop) (order : List NetNo) → order ≡ gates.order → stop ≡ stop_of why
      → (why ≢ cause.NoMemory → (lemmas : List (EndLemma PoolState)) → Refuses f gates.opened order lemmas why)
      → Stops (HasManyOpen gates.opening f) stop
  many_open why stop order same is h =
      subst (Stops (HasManyOpen gates.opening f)) (sym is) (many_at why (λ other lemmas.
      subst (λ (gs : List NetNo). Refuses f gates.opened gs lemmas why) same (h other lemmas)))

  module _ (k : Kinds) (along : PoolOrder) (budget : ℕ) (proof : EndProof PoolState)
      (a : IsAlong f (opened_of gates.opening f gates.order) gates.order along)
      (found : IsFoundAlong gates.opening f gates.order budget proof) where
    module _ (pools : OrderCertificate PoolLine) (l : ListAlong along gates proof.lemmas pools) where
      open_same : opened_of gates.opening f gates.order ≡ open_of f pools
      open_same =
          ap (λ (gs : List NetNo). open_in f gs gates.order) (sym (l.fill ∙ g.filled))
          ∙ ap (λ (gs : List NetNo). open_in f pools.fill gs) (sym l.order)

      listed_same : lemmas_of f pools ≡ proof.lemmas
      listed_same =
          subst (λ (o : OpenGates). lemmas_along (pools_of f o) (levels_of f o pools.order) pools.lemmas ≡ proof.lemmas)
          open_same
          (subst (λ (gs : List NetNo). lemmas_along (pools_of f (opened_of gates.opening f gates.order))
          (levels_of f (opened_of gates.opening f gates.order) gs) pools.lemmas ≡ proof.lemmas) (sym l.order)
          (subst (λ (ls : List PoolLevel). lemmas_along (pools_of f (opened_of gates.opening f gates.order)) ls
          pools.lemmas
          ≡ proof.lemmas) a.levels
          (subst (λ (ps : Pools). lemmas_along ps along.levels pools.lemmas ≡ proof.lemmas) a.pools l.listed)))

      searched : IsSearched gates.opening f budget pools proof
      searched = record {
        fill = l.fill ∙ g.filled ∙ ap (fill_by gates.opening f) (sym l.order);
        listed = listed_same;
        found = subst (λ (gs : List NetNo). IsFoundAlong gates.opening f gs budget proof) (sym l.order) found;
      }

      few_ways : HasFewWaysOf f pools
      few_ways =
          subst (λ (o : OpenGates). HasFewWays f o pools.order) open_same
          (subst (λ (gs : List NetNo). HasFewWays f (opened_of gates.opening f gates.order) gs) (sym l.order)
          a.few_ways)

      texts_same : AreTexts f pools
      texts_same =
          subst (λ (o : OpenGates). All (IsTextOfState (pools_of f o) (levels_of f o pools.order)) pools.lemmas)
          open_same
          (subst (λ (gs : List NetNo). All (IsTextOfState (pools_of f (opened_of gates.opening f gates.order))
          (levels_of f (opened_of gates.opening f gates.order) gs)) pools.lemmas) (sym l.order)
          (subst (λ (ls : List PoolLevel). All (IsTextOfState (pools_of f (opened_of gates.opening f gates.order)) ls)
          pools.lemmas) a.levels
          (subst (λ (ps : Pools). All (IsTextOfState ps along.levels) pools.lemmas) a.pools l.texts)))

      order_is : IsOrder f pools.order
      order_is = subst (IsOrder f) (sym l.order) g.is

      is_proof : AreFingers f → PoolsFit k pools → IsPoolProof f gates k budget proof pools
      is_proof ok fits = record {
        order = order_is;
        fill = is_fill gates.opening f ok pools order_is searched.fill;
        few_ways = few_ways;
        texts = texts_same;
        searched = searched;
        none_crowded = g.none_crowded ∙ ap (is_uncrowded f) (sym l.order);
        rowless = l.rowless;
        fits = fits;
      }

    lined_same : certificate_of gates.opening f gates.order proof.lemmas ≡ lined along gates proof.lemmas
    lined_same =
        ap (λ (fill : List NetNo). with_lines fill gates.order
        (map (line_at (pools_of f (opened_of gates.opening f gates.order))) proof.lemmas)) (sym g.filled)
        ∙ ap (λ (ps : Pools). with_lines gates.fill gates.order (map (line_at ps) proof.lemmas)) (sym a.pools)

    lines_same : lemmas_of f (certificate_of gates.opening f gates.order proof.lemmas) ≡ proof.lemmas
        → lemmas_along along.steps.pools along.levels (map (line_at along.steps.pools) proof.lemmas) ≡ proof.lemmas
    lines_same h =
        subst (λ (ls : List PoolLevel). lemmas_along along.steps.pools ls (map (line_at along.steps.pools) proof.lemmas)
        ≡ proof.lemmas) (sym a.levels)
        (subst (λ (ps : Pools). lemmas_along ps (levels_of f (opened_of gates.opening f gates.order) gates.order)
        (map (line_at ps) proof.lemmas) ≡ proof.lemmas) (sym a.pools) h)

    -- no text lists the lemmas
    unlisted : AreUnlistedAlong k along gates proof.lemmas → IsUnlisted gates.opening f budget k
    unlisted none = record {
      order = gates.order;
      is = g.is;
      proof = proof;
      found = found;
      none = λ few fits same. none
          (subst (λ (c : OrderCertificate PoolLine). length (pool_text (codes "cell") c) ≤ 1073741824) lined_same few)
          (subst (PoolsFit k) lined_same fits)
          (record {
            rowless = refl;
            fill = refl;
            order = refl;
            listed = lines_same same;
            texts = texts_of along.steps.pools along.levels proof.lemmas (lines_same same);
          });
    }

module _ (f : Fingers) (gates : PoolGates) (g : ArePoolGates f gates) (k : Kinds) (along : PoolOrder) (budget : ℕ)
    (proof : EndProof PoolState) (lemmas : List (EndLemma PoolState)) (listed : lemmas ≡ proof.lemmas)
    (a : IsAlong f (opened_of gates.opening f gates.order) gates.order along)
    (found : IsFoundAlong gates.opening f gates.order budget proof) where
  pub unlisted_by : AreUnlistedAlong k along gates lemmas → IsUnlisted gates.opening f budget k
  unlisted_by none =
      unlisted f gates g k along budget proof a found (subst (AreUnlistedAlong k along gates) listed none)

  pub proof_by : AreFingers f → (pools : OrderCertificate PoolLine) → PoolsFit k pools
      → ListAlong along gates lemmas pools → IsPoolProof f gates k budget proof pools
  proof_by ok pools fits l =
      is_proof f gates g k along budget proof a found pools
      (subst (λ (ls : List (EndLemma PoolState)). ListAlong along gates ls pools) listed l) ok fits

-- What a search finds, once pruned along the steps and levels of an order, is found along it.
module _ (f : Fingers) (gates : PoolGates) (g : ArePoolGates f gates) (along : PoolOrder) (budget : ℕ)
    (whole proof : EndProof PoolState) (a : IsAlong f (opened_of gates.opening f gates.order) gates.order along) where
  found_whole : IsEndProof (steps_of f gates.opened) (levels_of f gates.opened gates.order) start 31 budget whole
      → IsEndProof (steps_of f (opened_of gates.opening f gates.order))
      (levels_of f (opened_of gates.opening f gates.order) gates.order) start 31 budget whole
  found_whole found =
      subst (λ (o : OpenGates). IsEndProof (steps_of f o) (levels_of f o gates.order) start 31 budget whole) g.open_are
      found

  -- the lemmas that it found are justified along these
  pub justified_along : IsEndProof (steps_of f gates.opened) (levels_of f gates.opened gates.order) start 31 budget whole
      → AreJustified (pool_steps along.steps.pools) along.levels whole.lemmas
  justified_along found =
      subst (λ (ps : Pools). AreJustified (pool_steps ps) along.levels whole.lemmas) (sym a.pools)
      (subst (λ (ls : List PoolLevel). AreJustified (steps_of f (opened_of gates.opening f gates.order)) ls whole.lemmas)
      (sym a.levels) (found_whole found).justified)

  pub found_pruned : IsEndProof (steps_of f gates.opened) (levels_of f gates.opened gates.order) start 31 budget whole
      → IsPrunedProof (pool_steps along.steps.pools) along.levels whole proof
      → IsFoundAlong gates.opening f gates.order budget proof
  found_pruned found stays = record {
    whole = whole;
    found = found_whole found;
    stays = subst (λ (ls : List PoolLevel). IsPrunedProof (steps_of f (opened_of gates.opening f gates.order)) ls whole
        proof) a.levels (subst (λ (ps : Pools). IsPrunedProof (pool_steps ps) along.levels whole proof) a.pools stays);
  }
