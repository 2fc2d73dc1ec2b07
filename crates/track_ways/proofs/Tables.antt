-- Sets of nets as tables.
use Rattle.std.proofs.Common.{ℕ, zero, suc, ◌≡◌, ◌<◌, ◌||◌, ◌==◌, Bool, true, false, List, inl, inr, refl, sym, length, ◌∙◌}
use Rattle.std.specs.Prelude.{get_or, replicate, slice_set}
use Rattle.std.proofs.lemmas.Bool.{cases_eq, eq-eqb, ne_eqb}
use Rattle.std.proofs.lemmas.List.{get_or-set_other, get_or-set_same}
use Rattle.row_trails.specs.Counts.{flag}
use Rattle.track_ways.specs.declared.line.Line.{Line}
use Rattle.track_ways.specs.Lines.{is_net, with_line}
use Rattle.track_ways.proofs.LineParts.{same_tests}
use Rattle.track_ways.specs.Tables.{marked}
use Rattle.track_ways.specs.Ways.{net_of}

or_true : (b : Bool) → (b || true) ≡ true
or_true true = refl
or_true false = refl

or_false : (b : Bool) → (b || false) ≡ b
or_false true = refl
or_false false = refl

pub mark_at : (table : List Bool) (net u : ℕ) → net < length table → get_or (slice_set table net true) u false ≡ (get_or table u false || (net == u))
mark_at table net u within = elim (cases_eq u net) [
  | inl e ↦
      let there : get_or (slice_set table net true) net false ≡ true = get_or-set_same table net true false within in
      rw (e, eq-eqb net net refl, or_true (get_or table net false)) there
  | inr ne ↦
      let there : get_or (slice_set table net true) u false ≡ get_or table u false = get_or-set_other table net u true false ne in
      rw (ne_eqb net u (λ e. ne (sym e)), or_false (get_or table u false)) there
]

or_assoc : (a b c d : Bool) → (((a || b) || c) || d) ≡ (a || (b || (c || d)))
or_assoc true b c d = refl
or_assoc false true c d = refl
or_assoc false false c d = refl

pub line_marked : (before after : List Bool) (line : Line) → ((u : ℕ) → flag after u ≡ (((flag before u || is_net line.p (net_of u)) || is_net line.n (net_of u)) || is_net line.gate (net_of u))) → marked after ≡ with_line (marked before) line
line_marked before after line each = same_tests (marked after) (with_line (marked before) line) (λ net. each net.0 ∙ or_assoc (flag before net.0) (is_net line.p net) (is_net line.n net) (is_net line.gate net))

none_at : (n u : ℕ) → get_or (replicate n false) u false ≡ false
none_at zero u = refl
none_at (suc n) zero = refl
none_at (suc n) (suc u) = none_at n u

pub none_marked : marked (replicate 256 false) ≡ (λ net. false)
none_marked = same_tests (marked (replicate 256 false)) (λ net. false) (λ net. none_at 256 net.0)
