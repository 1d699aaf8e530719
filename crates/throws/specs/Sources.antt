-- The words that wait in each source.
use Rattle.std.specs.Prelude.{ℕ, List}
use Rattle.throws.specs.Words.{words_from}
use Rattle.throws.specs.declared.source.Listed.{Listed}
use Rattle.throws.specs.declared.source.Xorshift32.{Xorshift32}

-- those of the caller's list that are left
abbrev pub listed : Listed → List ℕ
listed s = s.words.now

-- so many as are counted, from the present state
abbrev pub generated : Xorshift32 → List ℕ
generated s = words_from s.count s.state
