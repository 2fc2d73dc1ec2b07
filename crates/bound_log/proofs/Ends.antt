-- The last line.
use Rattle.std.specs.Prelude.{ℕ, ◌≡◌, ◌≢◌, ◌+◌, true, false, List, ◌∷◌, Ok, Err, codes, length}
use Rattle.std.proofs.Common.{refl}
use Rattle.log_lines.specs.Words.{is_word}
use Rattle.log_lines.specs.Lines.{behind, lines_in}
use Rattle.log_lines.proofs.Feeds.{nothing_left, something_left}
use Rattle.bound_log.specs.declared.fault.LogFault.TheVariants as fault
use Rattle.bound_log.specs.Reading.{end_at}

-- the line `end`, the last or not
pub ended : (n : ℕ) (bytes line after : List ℕ) → lines_in bytes ≡ line ∷ lines_in after → behind bytes ≡ behind after → is_word line (codes "end") ≡ true → length after ≡ 0 → Ok tt ≡ end_at n (lines_in bytes) (behind bytes)
ended n bytes line after is same end none = rw (is, same, end, nothing_left after none) refl

pub ended_before : (n : ℕ) (bytes line after : List ℕ) → lines_in bytes ≡ line ∷ lines_in after → behind bytes ≡ behind after → is_word line (codes "end") ≡ true → length after ≢ 0 → Err (fault.Line (n + 1)) ≡ end_at n (lines_in bytes) (behind bytes)
ended_before n bytes line after is same end some = rw (is, same, end, something_left after some) refl

pub not_ended : (n : ℕ) (bytes line : List ℕ) (later : List (List ℕ)) → lines_in bytes ≡ line ∷ later → is_word line (codes "end") ≡ false → Err (fault.Line n) ≡ end_at n (lines_in bytes) (behind bytes)
not_ended n bytes line later is other = rw (is, other) refl
