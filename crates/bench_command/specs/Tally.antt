-- What is counted of cells.
use Rattle.std.specs.Prelude.{ℕ, ◌≡◌, ◌≤◌, ◌+◌, ◌*◌, ◌^◌}
use Rattle.bench_command.specs.declared.tally.Tally.{Tally}

abbrev pub nothing : Tally
nothing = record { made = 0; cycles = 0; unfinished = 0; columns = 0; gaps = 0; fingers = 0; bytes = 0 }

-- the counts of two sets of cells together
abbrev pub added : Tally → Tally → Tally
added a b = record {
  made = a.made + b.made;
  cycles = a.cycles + b.cycles;
  unfinished = a.unfinished + b.unfinished;
  columns = a.columns + b.columns;
  gaps = a.gaps + b.gaps;
  fingers = a.fingers + b.fingers;
  bytes = a.bytes + b.bytes;
}

-- the most that one cell adds to a count
abbrev pub most_of_cell : ℕ
most_of_cell = 2 ^ 32

-- no count is above what that many cells result in
pub record IsWithin (cells : ℕ) (tally : Tally) : Type 0 where
  pub made : tally.made ≤ most_of_cell * cells
  pub cycles : tally.cycles ≤ most_of_cell * cells
  pub unfinished : tally.unfinished ≤ most_of_cell * cells
  pub columns : tally.columns ≤ most_of_cell * cells
  pub gaps : tally.gaps ≤ most_of_cell * cells
  pub fingers : tally.fingers ≤ most_of_cell * cells
  pub bytes : tally.bytes ≤ most_of_cell * cells

-- each of that many cells was made, or has a cycle
pub record AreAllEnded (cells : ℕ) (tally : Tally) : Type 0 where
  pub none_unfinished : tally.unfinished ≡ 0
  pub sum : tally.made + tally.cycles ≡ cells
