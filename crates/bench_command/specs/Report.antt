-- What a bench results in.
use Rattle.std.specs.Prelude.{ℕ, ◌≡◌, ◌+◌, List, ◌++◌, codes}
use Rattle.cell_num.specs.Lines.{count_line}
use Rattle.bench_command.specs.Bench.{IsBenched}
use Rattle.bench_command.specs.declared.tally.Tally.{Tally}
use Rattle.call_end.specs.declared.end.End.{End}
use Rattle.call_end.specs.declared.status.Status.TheVariants as status
use Rattle.call_end.specs.End.{reports}

-- the number of cells; how many of them were made, how many have a cycle and how many searches were unfinished
abbrev pub cells_text : ℕ → Tally → List ℕ
cells_text number t =
    count_line (codes "bench ") number
    ++ count_line (codes "made ") t.made
    ++ count_line (codes "cycle ") t.cycles
    ++ count_line (codes "unfinished ") t.unfinished

-- the columns, the gaps, the fingers and the bytes of the libraries of those that were made
abbrev pub sums_text : Tally → List ℕ
sums_text t =
    count_line (codes "columns ") t.columns
    ++ count_line (codes "gaps ") t.gaps
    ++ count_line (codes "fingers ") t.fingers
    ++ count_line (codes "bytes ") t.bytes

abbrev pub bench_text : ℕ → Tally → List ℕ
bench_text number t = cells_text number t ++ sums_text t

-- Each of that many generated cells is made or has a cycle, no search of one is unfinished, and these are the counts.
pub record IsCounted (number : ℕ) (tally : Tally) : Type 0 where
  pub benched : IsBenched number tally
  pub sum : tally.made + tally.cycles ≡ number
  pub finished : tally.unfinished ≡ 0

abbrev pub bench_end : ℕ → Tally → End
bench_end number tally = reports status.Done (bench_text number tally)

abbrev pub BenchesTo : ℕ → End → Type 0
BenchesTo number end = (tally : Tally) × IsCounted number tally × (end ≡ bench_end number tally)
