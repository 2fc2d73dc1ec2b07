-- The first row of the proved number is the first least one, and its certificate is accepted.
use Rattle.std.specs.Prelude.{ℕ, ◌≡◌, ◌+◌, ◌-◌, ◌≤◌, Bool, List, Option, IfSome, IsNone}
use Rattle.std.proofs.Common.{refl, sym, ap, subst, arith, inl, inr, ◌∙◌}
use Rattle.cell_num.specs.declared.finger.Fingers.{Fingers}
use Rattle.cell_num.specs.declared.net.NetNo.{NetNo}
use Rattle.cell_num.specs.Fingers.{AreFingers, columns_of}
use Rattle.row_state.specs.declared.kind.Kinds.{Kinds}
use Rattle.row_state.specs.declared.step.Step.{Step}
use Rattle.row_state.specs.Start.{AreKinds, AreSomeKinds, columns_left, start_of}
use Rattle.row_state.proofs.Unfold.{columns_same}
use Rattle.row_state.proofs.Valid.{gates_are_nets}
use Rattle.bound_log.specs.declared.log.Best.{Best}
use Rattle.row_search.specs.Limits.{best_with}
use Rattle.row_search.specs.Steps.{row_of}
use Rattle.row_search.proofs.Columns.{all_fit, listed_row}
use Rattle.open_gates.specs.declared.gates.OpenGates.{OpenGates}
use Rattle.open_gates.specs.Open.{open_in}
use Rattle.trail_check.specs.Accepted.{IsLow}
use Rattle.trail_check.specs.Justified.{gaps_proved}
use Rattle.trail_search.specs.declared.first.ListedRow.{ListedRow}
use Rattle.trail_search.specs.declared.attempts.Attempts.{Attempts}
use Rattle.trail_search.specs.First.{IsFirstRow}
use Rattle.trail_search.specs.Searched.{WentForRow}
use Rattle.trail_search.specs.Visit.{IsFirstOf}
use Rattle.trail_search.proofs.Certified.{few_gaps, first_least, gaps_are, row_passes}
use Rattle.trail_pools.specs.declared.state.PoolState.{PoolState}
use Rattle.trail_pools.specs.Leveled.{levels_of}
use Rattle.trail_pools.specs.State.{start}
use Rattle.end_lemmas.specs.Justified.{AreEndsProved}
use Rattle.end_search.specs.declared.proof.EndProof.{EndProof}
use Rattle.end_search.specs.declared.proof.SearchEnd.{SearchEnd}
use Rattle.end_search.specs.declared.proof.SearchEnd.TheVariants as ended
use Rattle.end_search.specs.Proof.{EndsAs}
use Rattle.fewer_fingers.specs.declared.fewer.LeftOut.{LeftOut}
use Rattle.fewer_fingers.specs.Fewer.{columns_lost, staying}
use Rattle.fewer_fingers.proofs.Counts.{staying_fingers}
use Rattle.fewer_fingers.proofs.Law.{fewer_law}
use Rattle.fewer_log.specs.declared.certificate.FewerCertificate.{FewerCertificate}
use Rattle.fewer_log.specs.Fits.{OutFits}
use Rattle.fewer_log.specs.Listing.{listing, pools_listing}
use Rattle.pool_check.specs.Accepted.{IsAccepted as AreAccepted}
use Rattle.pool_check.specs.Stepping.{steps_of}
use Rattle.pool_check.proofs.Low.{accepted_low}
use Rattle.pool_certificate.specs.Accepted.{AreProved, AreTexts, HasFewWaysOf, IsFill, ProvesOfAll, lemmas_of, open_of}
use Rattle.pool_trails.specs.declared.gates.PoolGates.{PoolGates}
use Rattle.pool_trails.specs.declared.opening.Opening.{Opening}
use Rattle.pool_trails.specs.Found.{IsPrunedProof}
use Rattle.pool_trails.specs.Ended.{IsPoolCertified, IsPoolFound, IsPoolProved, IsPoolSpent, attempts_where}
use Rattle.pool_trails.specs.Inner.{IsPoolProof}
use Rattle.pool_trails.specs.Opening.{gaps_by, lost_by, opened_of, out_of, staying_by}
use Rattle.pool_trails.proofs.LeftOut.{out_fits_kinds}

-- the gaps that are proved of all fingers, from the columns lost
pub bound_is : (opening : Opening) (f : Fingers) (ends proved lost : ℕ) → lost ≡ lost_by opening f
    → proved ≡ gaps_proved ends - lost → proved ≡ gaps_by opening f ends
bound_is opening f ends proved lost lost_is is = is ∙ ap (λ (n : ℕ). gaps_proved ends - n) lost_is

module _ (f : Fingers) (gates : PoolGates) (k : Kinds) (budget : ℕ) (proof : EndProof PoolState)
    (c : FewerCertificate) (ok : AreFingers f) (of_f : AreKinds f k) (sound : AreSomeKinds k)
    (out_is : c.out ≡ out_of gates.opening f)
    (p : IsPoolProof (staying_by gates.opening f) gates k budget proof c.pools) where
  -- the fingers that the lemmas are about
  abbrev others : Fingers
  others = staying_by gates.opening f

  -- what their ends prove of all
  abbrev bound : ℕ
  bound = gaps_by gates.opening f proof.ends

  others_are : AreFingers others
  others_are = staying_fingers f ok (out_of gates.opening f)

  open_is : open_of others c.pools ≡ opened_of gates.opening others c.pools.order
  open_is = ap (λ (gs : List NetNo). open_in others gs c.pools.order) p.searched.fill

  abbrev before : EndProof PoolState
  before = p.searched.found.whole

  stays : IsPrunedProof (steps_of others (open_of others c.pools))
      (levels_of others (open_of others c.pools) c.pools.order) before proof
  stays = subst (λ (o : OpenGates). IsPrunedProof (steps_of others o) (levels_of others o c.pools.order) before proof)
      (sym open_is) p.searched.found.stays

  ends_are : AreEndsProved start proof.lemmas proof.ends
  ends_are =
      subst (AreEndsProved start proof.lemmas) (sym stays.ends)
      (stays.pruned.ends before.ends p.searched.found.found.ends_are)

  abbrev EndsSo : ℕ → ℕ → SearchEnd → Type 0
  EndsSo = EndsAs (steps_of others (opened_of gates.opening others c.pools.order))
      (levels_of others (opened_of gates.opening others c.pools.order) c.pools.order) start 31

  -- so the search ended
  pub ends_as : EndsSo proof.ends proof.left proof.end
  ends_as =
      subst (λ (ends : ℕ). EndsSo ends proof.left proof.end) (sym stays.ends)
      (subst (λ (left : ℕ). EndsSo before.ends left proof.end) (sym stays.left)
      (subst (λ (end : SearchEnd). EndsSo before.ends before.left end) (sym stays.end) p.searched.found.found.end_is))

  -- the lemmas are accepted
  accepted : AreProved others c.pools proof.ends
  accepted = subst (λ ls. AreAccepted others (open_of others c.pools) c.pools.order ls proof.ends)
      (sym p.searched.listed)
      (record { gates = p.order; justified = stays.pruned.justified; proved = ends_are })

  pub others_low : IsLow others (gaps_proved proof.ends)
  others_low =
      accepted_low others (open_of others c.pools) c.pools.order (lemmas_of others c.pools) others_are proof.ends
      accepted

  low : IsLow f bound
  low = fewer_law f ok (out_of gates.opening f) (gaps_proved proof.ends) others_low

  few : bound ≤ 32
  few = few_gaps k f bound of_f sound low

  out_fits : IfSome c.out (OutFits k.nets)
  out_fits = subst (λ (out : Option LeftOut). IfSome out (OutFits k.nets)) (sym out_is)
      (out_fits_kinds gates.opening f k of_f)

  proves : (row : Best) → ProvesOfAll f (listing c row) bound
  proves row = record {
    fill = subst (λ (out : Option LeftOut). IsFill (staying out f) (pools_listing c.pools row)) (sym out_is)
        (record { half = p.fill.half; opened = p.fill.opened });
    texts = subst (λ (out : Option LeftOut). AreTexts (staying out f) c.pools) (sym out_is) p.texts;
    ends = proof.ends;
    lemmas = subst (λ (out : Option LeftOut). AreProved (staying out f) c.pools proof.ends) (sym out_is) accepted;
    proved_is = subst (λ (out : Option LeftOut). bound ≡ gaps_proved proof.ends - columns_lost f (staying out f))
        (sym out_is) refl;
  }

  certified : (steps : List Step) → IsFirstOf k (start_of k) bound steps
      → IsPoolCertified k f (row_of k steps) (listing c (best_with k bound steps))
  certified steps h = record {
    accepted = record {
      proved = bound;
      lemmas = proves (best_with k bound steps);
      passes = (k, of_f, sound, row_passes k f bound bound steps of_f sound low (omega arith) h);
    };
    few_ways = subst (λ (out : Option LeftOut). HasFewWaysOf (staying out f) c.pools) (sym out_is) p.few_ways;
    lists = listed_row k steps;
    fits = record {
      out = out_fits;
      pools = record {
        fill = p.fits.fill;
        increase = p.fits.increase;
        order = p.fits.order;
        lemmas = p.fits.lemmas;
        best = record { few = omega (arith, few); steps = all_fit k steps (gates_are_nets k sound) h.sound };
      };
    };
  }

  -- the first row of as many bound as are proved
  found_at : (listed : ListedRow) → IsFirstRow k bound listed
      → IsPoolFound gates.opening f budget listed.row (listing c listed.best)
  found_at listed h =
      subst (λ (z : ListedRow). IsPoolFound gates.opening f budget z.row (listing c z.best)) (sym h.is)
      (record {
        first = first_least k f bound h.steps of_f low h.first;
        certified = (k, of_f, sound, certified h.steps h.first);
        out = out_is;
        proof = proof;
        searched = record { fill = p.searched.fill; listed = p.searched.listed; found = p.searched.found };
        gaps = gaps_are k f bound h.steps of_f low h.first;
      })

  pub proved_is : IsPoolProved gates.opening f budget c proof bound
  proved_is = record {
    out = out_is;
    lists_none = subst IsNone (sym p.rowless) refl;
    fill = p.fill;
    texts = p.texts;
    accepted = accepted;
    few_ways = p.few_ways;
    best = refl;
    low = low;
    fits = (k, of_f, sound, record { out = out_fits; pools = p.fits });
    searched = p.searched;
  }

  -- the search for lemmas left no units
  lemmas_spent_at : proof.end ≡ ended.Spent → IsPoolSpent gates.opening f budget c bound
  lemmas_spent_at e = record {
    proof = proof;
    lemmas = proved_is;
    work = inl (subst (λ (z : SearchEnd). EndsSo proof.ends proof.left z) e ends_as);
  }

  abbrev Went : Attempts → ℕ → Type 0
  Went attempts others = WentForRow k attempts (bound + 1) proof.left others

  -- the search for a row left none
  row_spent_at : Went (attempts_where gates.uncrowded) (columns_left k (start_of k))
      → IsPoolSpent gates.opening f budget c bound
  row_spent_at went = record {
    proof = proof;
    lemmas = proved_is;
    work = inr (
      k,
      of_f,
      sound,
      subst (λ (uncrowded : Bool). Went (attempts_where uncrowded) (columns_of f)) p.none_crowded
          (subst (Went (attempts_where gates.uncrowded)) (sym (columns_same f k of_f)) went),
    );
  }

  -- as the code counts them
  module _ (proved lost : ℕ) (l : lost ≡ lost_by gates.opening f) (is : proved ≡ gaps_proved proof.ends - lost) where
    e : proved ≡ bound
    e = bound_is gates.opening f proof.ends proved lost l is

    pub few_proved : proved ≤ 32
    few_proved = omega (arith, e, few)

    pub found_is : (listed : ListedRow) (made : FewerCertificate) → IsFirstRow k proved listed
        → made ≡ listing c listed.best → IsPoolFound gates.opening f budget listed.row made
    found_is listed made h made_is =
        subst (λ (z : FewerCertificate). IsPoolFound gates.opening f budget listed.row z) (sym made_is)
        (found_at listed (subst (λ (n : ℕ). IsFirstRow k n listed) e h))

    pub lemmas_spent : proof.end ≡ ended.Spent → IsPoolSpent gates.opening f budget c proved
    lemmas_spent spent = subst (IsPoolSpent gates.opening f budget c) (sym e) (lemmas_spent_at spent)

    pub row_spent : WentForRow k (attempts_where gates.uncrowded) (proved + 1) proof.left (columns_left k (start_of k))
        → IsPoolSpent gates.opening f budget c proved
    row_spent went =
        subst (IsPoolSpent gates.opening f budget c) (sym e) (row_spent_at (subst (λ (n : ℕ).
        WentForRow k (attempts_where gates.uncrowded) (n + 1) proof.left (columns_left k (start_of k))) e went))
