-- Work that reads files in order: which file comes next depends on what the ones before it held, and the first
-- refusal ends it.
use Rattle.std.specs.Prelude.{ℕ, ◌≡◌, ◌⊎◌, List, Result, Ok, Err}
use Rattle.cell_io.specs.Desk.{Files, View, Rose}
use Rattle.call_read.specs.declared.refusal.Refusal.{Refusal}
use Rattle.call_read.specs.declared.refusal.Refusal.TheVariants.{NoMemory}
use Rattle.call_read.specs.Sources.{Source, MayRead, held}

-- it ended, or it reads a file and goes on with its bytes
pub data Reading (A : Type 0) : Type 0 where
  Ends : (ended : Result A Refusal) → Reading A
  Reads : (source : Source) (rest : List ℕ → Reading A) → Reading A

-- one reading, and after it another
infixl 10 ◌>>=◌
abbrev pub ◌>>=◌ : {A B : Type 0} → Reading A → (A → Reading B) → Reading B
(Ends (Ok x)) >>= next = next x
(Ends (Err e)) >>= next = Ends (Err e)
(Reads source rest) >>= next = Reads source (λ bytes. rest bytes >>= next)

-- the bytes of one file
abbrev pub bytes_of : Source → Reading (List ℕ)
bytes_of source = Reads source (λ bytes. Ends (Ok bytes))

-- the rest, where a file was read
abbrev pub behind : {A : Type 0} → Result (List ℕ) Refusal → (List ℕ → Result A Refusal) → Result A Refusal
behind (Ok bytes) rest = rest bytes
behind (Err e) rest = Err e

-- what it results in over files that are shown
abbrev pub called : {A : Type 0} → Files → Reading A → Result A Refusal
called files (Ends ended) = ended
called files (Reads source rest) = behind (held files source) (λ bytes. called files (rest bytes))

-- a file was read so, and the rest holds of its bytes; or its refusal is the end
abbrev pub Behind : {A : Type 0} → Result (List ℕ) Refusal → (List ℕ → Type 0) → Result A Refusal → Type 0
Behind (Ok bytes) Rest ended = Rest bytes
Behind (Err e) Rest ended = ended ≡ Err e

-- what it may result in, where each file may be read as so
abbrev pub Comes : {A : Type 0} → (Source → Result (List ℕ) Refusal → Type 0) → Reading A → Result A Refusal → Type 0
Comes May (Ends told) ended = ended ≡ told
Comes May (Reads source rest) ended =
    (read : Result (List ℕ) Refusal)
    × May source read
    × Behind read (λ bytes. Comes May (rest bytes) ended) ended

-- over a desk, seen before and after it, it may result in this, or memory ran out
abbrev pub MayCome : {A : Type 0} → View → View → Reading A → Result A Refusal → Type 0
MayCome old new reading ended =
    Comes (MayRead old.given (Rose old.read_faults new.read_faults)) reading ended ⊎ (ended ≡ Err NoMemory)
