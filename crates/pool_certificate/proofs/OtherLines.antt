-- Lines one by one, up to the first that is not the text of its state.
use Rattle.std.specs.Prelude.{ℕ, ◌≡◌, ◌+◌, ◌<◌, ◌≤◌, ◌↔◌, Bool, true, false, IsTrue, List, All, length, take}
use Rattle.std.specs.Prelude.{Option, Some, None, IfNone}
use Rattle.std.proofs.Common.{ap, subst, sym, ◌∙◌, get_or, take_all}
use Rattle.std.proofs.lemmas.List.Elements.{All-more}
use Rattle.std.proofs.lemmas.Option.{slice_get-get_or}
use Rattle.cell_num.specs.declared.finger.Fingers.{Fingers}
use Rattle.trail_pools.specs.declared.level.PoolLevel.{PoolLevel}
use Rattle.trail_pools.specs.declared.pools.Pools.{Pools}
use Rattle.trail_pools.specs.Leveled.{levels_of}
use Rattle.order_log.specs.declared.certificate.OrderCertificate.{OrderCertificate}
use Rattle.pool_log.specs.declared.lemma.PoolLine.{PoolLine}
use Rattle.pool_lines.specs.Texts.{IsTextOfState}
use Rattle.pool_check.specs.declared.along.PoolOrder.{PoolOrder}
use Rattle.pool_check.specs.Along.{IsAlong}
use Rattle.pool_certificate.specs.Accepted.{AreTexts, open_of}
use Rattle.pool_certificate.specs.Refusal.{IsFirstOther}

module _ (pools : Pools) (levels : List PoolLevel) (lines : List PoolLine) (at : ℕ) where
  pub all_texts : length lines ≤ at → All (IsTextOfState pools levels) (take at lines)
      → All (IsTextOfState pools levels) lines
  all_texts past before = subst (All (IsTextOfState pools levels)) (take_all at lines past) before

  -- the next line is a text if this is told
  module _ (others : List PoolLevel) (line : PoolLine) (b : Bool) (within : at < length lines)
      (is : line ≡ get_or lines at line) (are : others ≡ levels) (tells : IsTrue b ↔ IsTextOfState pools others line) where
    told : IsTrue b ↔ IsTextOfState pools levels line
    told = subst (λ (ls : List PoolLevel). IsTrue b ↔ IsTextOfState pools ls line) are tells

    pub more_texts : All (IsTextOfState pools levels) (take at lines) → IsTrue b
        → All (IsTextOfState pools levels) (take (at + 1) lines)
    more_texts before yes' =
        All-more (IsTextOfState pools levels) lines at line within before
        (subst (IsTextOfState pools levels) is (told.0 yes'))

    pub first_other : All (IsTextOfState pools levels) (take at lines) → b ≡ false → IsFirstOther pools levels lines at
    first_other before off = record {
      line = line;
      there = slice_get-get_or lines at line within ∙ ap Some (sym is);
      before = before;
      other = λ text. let yes' : b ≡ true = told.1 text in cc;
    }

-- where no line is other, all are texts by the levels of the order
pub texts_along : (f : Fingers) (pools : OrderCertificate PoolLine) (along : PoolOrder) (lines : List PoolLine)
    (first : Option ℕ) → IsAlong f (open_of f pools) pools.order along → lines ≡ pools.lemmas
    → IfNone first (All (IsTextOfState along.steps.pools along.levels) lines) → first ≡ None → AreTexts f pools
texts_along f pools along lines first is are texts none =
    let here : All (IsTextOfState along.steps.pools along.levels) lines =
    subst (λ (o : Option ℕ). IfNone o (All (IsTextOfState along.steps.pools along.levels) lines)) none texts in
    subst (λ (ps : Pools). All (IsTextOfState ps (levels_of f (open_of f pools) pools.order)) pools.lemmas) is.pools
    (subst (λ (ls : List PoolLevel). All (IsTextOfState along.steps.pools ls) pools.lemmas) is.levels
    (subst (All (IsTextOfState along.steps.pools along.levels)) are here))
