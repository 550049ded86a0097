-- What a put does to what a sink tells: its bytes, and the number of its lines.
use Rattle.std.specs.Prelude.{◌≡◌, ℕ, ◌+◌, ◌%◌, ◌^◌, ◌≤◌, ◌<◌, List, [], ◌++◌, length, take, Result, Option, Ok, Err, count_by, ◌==◌}
use Rattle.std.specs.Option.{option_map}

-- the line feeds of a text
abbrev pub feeds : List ℕ → ℕ
feeds bs = count_by (λ b. b == 10) bs

-- what a sink tells: the bytes that it took and the number of their line feeds modulo 2 ^ 64, each where it tells it; and how often it failed
pub record SinkState : Type 0 where
  pub bytes : Option (List ℕ)
  pub lines : Option ℕ
  pub faults : ℕ

-- the same number modulo 2 ^ 64
abbrev pub wrapped : Option ℕ → Option ℕ
wrapped n = option_map (λ n. n % 2 ^ 64) n

-- What is told goes on by these bytes, and no more and no less is told.
pub record Took (old new : SinkState) (bs : List ℕ) : Type 0 where
  pub bytes : new.bytes ≡ option_map (λ xs. xs ++ bs) old.bytes
  pub lines : wrapped new.lines ≡ wrapped (option_map (λ n. n + feeds bs) old.lines)

-- a put takes a front of the piece, at least a byte of it where there is one, and nothing where it fails
abbrev pub Puts : {E : Type 0} → SinkState → SinkState → Result ℕ E → List ℕ → Type 0
Puts old new (Ok n) piece = (n ≤ length piece) × (0 < length piece → 0 < n) × Took old new (take n piece)
Puts old new (Err e) piece = Took old new []

-- a front of these bytes was taken
pub record TookFront (old new : SinkState) (bs : List ℕ) : Type 0 where
  pub count : ℕ
  pub within : count ≤ length bs
  pub took : Took old new (take count bs)

-- all is taken, and a front where it fails
abbrev pub PutsAll : {A E : Type 0} → SinkState → SinkState → Result A E → List ℕ → Type 0
PutsAll old new (Ok x) bs = Took old new bs
PutsAll old new (Err e) bs = TookFront old new bs
