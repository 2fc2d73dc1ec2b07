-- Where each arrangement has more gaps than are proved, no lemmas over the order prove more.
use Rattle.std.specs.Prelude.{ℕ, ◌≡◌, ◌+◌, ◌-◌, ◌≤◌, ◌<◌, List, Option, None, Some, length}
use Rattle.std.proofs.Common.{refl, sym, subst, arith}
use Rattle.cell_num.specs.declared.finger.Fingers.{Fingers}
use Rattle.cell_num.specs.declared.net.NetNo.{NetNo}
use Rattle.cell_num.specs.Fingers.{AreFingers, columns_of}
use Rattle.row_model.specs.declared.column.Column.{Column}
use Rattle.row_model.specs.Arrangement.{IsArrangement}
use Rattle.row_model.specs.Gaps.{gaps_of}
use Rattle.row_state.specs.declared.kind.Kinds.{Kinds}
use Rattle.row_state.specs.Completion.{Completes, Need}
use Rattle.row_state.specs.Start.{AreKinds, AreSomeKinds, start_of}
use Rattle.row_state.proofs.Exists.{completion_exists}
use Rattle.row_state.proofs.Unfold.{arrangement_of, completion_of, gaps_from_start}
use Rattle.row_state.proofs.Valid.{gates_are_nets}
use Rattle.trail_check.specs.Accepted.{IsLow}
use Rattle.trail_check.specs.Justified.{gaps_proved}
use Rattle.trail_search.proofs.Certified.{less_by_one}
use Rattle.trail_pools.specs.declared.state.PoolState.{PoolState}
use Rattle.trail_pools.specs.Leveled.{levels_of}
use Rattle.trail_pools.specs.State.{start}
use Rattle.end_search.specs.declared.proof.EndProof.{EndProof}
use Rattle.end_search.specs.declared.proof.SearchEnd.{SearchEnd}
use Rattle.end_search.specs.declared.proof.SearchEnd.TheVariants as ended
use Rattle.end_search.specs.Proof.{EndsAs, next_need}
use Rattle.end_search.specs.Reached.{HasFewer}
use Rattle.fewer_fingers.specs.declared.fewer.LeftOut.{LeftOut}
use Rattle.fewer_fingers.specs.Fewer.{staying}
use Rattle.fewer_fingers.proofs.Kept.{kept}
use Rattle.fewer_fingers.proofs.Law.{kept_arranges}
use Rattle.fewer_log.specs.declared.certificate.FewerCertificate.{FewerCertificate}
use Rattle.pool_check.specs.Stepping.{steps_of}
use Rattle.pool_trails.specs.declared.gates.PoolGates.{PoolGates}
use Rattle.pool_trails.specs.declared.opening.Opening.{Opening}
use Rattle.pool_trails.specs.Ended.{IsPoolInVain}
use Rattle.pool_trails.specs.Inner.{IsPoolProof}
use Rattle.pool_trails.specs.Opening.{gaps_by, lost_by, opened_of, out_of, staying_by}
use Rattle.pool_trails.proofs.Certified.{bound_is, ends_as, others_low, proved_is}

-- Where not as many gaps were asked for as are proved, and units are left, no lemmas prove more.
most_by : (opening : Opening) (f : Fingers) (order : List NetNo) (ends left : ℕ) (end : SearchEnd)
    → EndsAs (steps_of f (opened_of opening f order)) (levels_of f (opened_of opening f order) order) start 31 ends left
    end
    → (end ≡ ended.Spent → ⊥) → gaps_proved ends < 31
    → HasFewer (steps_of f (opened_of opening f order)) (levels_of f (opened_of opening f order) order) start
    (next_need ends)
most_by opening f order ends left ended.Exact h whole few = h
most_by opening f order ends left ended.Asked h whole few = absurd (omega (arith, h, few))
most_by opening f order ends left ended.Spent h whole few = absurd (whole refl)

-- an arrangement of the fingers that stay, from one of all
staying_row : (f : Fingers) → AreFingers f → (out : Option LeftOut) → (row : List Column) → IsArrangement row f
    → (others : List Column) × IsArrangement others (staying out f)
staying_row f ok None row arranges = (row, arranges)
staying_row f ok (Some out) row arranges = (kept out.row out row, kept_arranges f ok row arranges out out.row)

-- Fewer gaps than a row can have are proved of the fingers that stay: they need fewer columns, or all have a row with
-- more gaps.
few_gaps : (gaps columns others row_gaps row_columns other_gaps other_columns : ℕ) → columns ≤ 32
    → row_columns ≡ columns → row_gaps ≤ row_columns - 1 → gaps - (columns - others) + 1 ≤ row_gaps
    → other_columns ≡ others → other_gaps ≤ other_columns - 1 → gaps ≤ other_gaps → gaps < 31
few_gaps gaps columns others row_gaps row_columns other_gaps other_columns few long less more stay_long stay_less low =
    omega (arith, few, long, less, more, stay_long, stay_less, low)

module _ (f : Fingers) (gates : PoolGates) (k : Kinds) (budget : ℕ) (proof : EndProof PoolState)
    (c : FewerCertificate) (ok : AreFingers f) (of_f : AreKinds f k) (sound : AreSomeKinds k)
    (out_is : c.out ≡ out_of gates.opening f)
    (p : IsPoolProof (staying_by gates.opening f) gates k budget proof c.pools) where
  abbrev bound : ℕ
  bound = gaps_by gates.opening f proof.ends

  -- Every arrangement has more gaps. So not as many as a row can have were proved, and no lemmas prove more.
  in_vain_at : (proof.end ≡ ended.Spent → ⊥) → Need k (start_of k) (bound + 1)
      → IsPoolInVain gates.opening f budget c bound
  in_vain_at whole need = record {
    proof = proof;
    lemmas = proved_is f gates k budget proof c ok of_f sound out_is p;
    order = p.order;
    most = most_by gates.opening (staying_by gates.opening f) c.pools.order proof.ends proof.left proof.end
        (ends_as f gates k budget proof c ok of_f sound out_is p) whole few_enough;
    more = more;
  }
    where
      more : IsLow f (bound + 1)
      more row arranges = omega (arith, need row (completion_of f k row of_f arranges), gaps_from_start k row)

      few_enough : gaps_proved proof.ends < 31
      few_enough =
          let whole_row : (row : List Column) × Completes k (start_of k) row =
          completion_exists k (start_of k) (gates_are_nets k sound) in
          let all : IsArrangement whole_row.0 f = arrangement_of f k whole_row.0 of_f whole_row.1 in
          let stay : (others : List Column) × IsArrangement others (staying_by gates.opening f) =
          staying_row f ok (out_of gates.opening f) whole_row.0 all in
          few_gaps (gaps_proved proof.ends) (columns_of f) (columns_of (staying_by gates.opening f))
          (gaps_of whole_row.0) (length whole_row.0) (gaps_of stay.0) (length stay.0) ok.few_columns all.fewest
          (less_by_one whole_row.0) (more whole_row.0 all) stay.1.fewest (less_by_one stay.0)
          (others_low f gates k budget proof c ok of_f sound out_is p stay.0 stay.1)

  -- as the code counts them
  pub in_vain : (proved lost : ℕ) → lost ≡ lost_by gates.opening f → proved ≡ gaps_proved proof.ends - lost
      → (proof.end ≡ ended.Spent → ⊥) → Need k (start_of k) (proved + 1) → IsPoolInVain gates.opening f budget c proved
  in_vain proved lost lost_is is whole need =
      let e : proved ≡ bound = bound_is gates.opening f proof.ends proved lost lost_is is in
      subst (IsPoolInVain gates.opening f budget c) (sym e)
      (in_vain_at whole (subst (λ (n : ℕ). Need k (start_of k) (n + 1)) e need))
