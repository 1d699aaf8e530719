-- Waiting words, and throws made of them.
use Rattle.std.specs.Prelude.{◌≡◌, ℕ, zero, suc, ◌*◌, ◌/◌, ◌%◌, ◌^◌, Bool, cond, ◌&&◌, List, [], ◌∷◌, Some, None, Ok, Err, Option, Result, ◌==◌, bit_xor, nat_le, nat_lt}
use Rattle.design.specs.Faults.{Refusal, refusal}

-- ---- sources
-- a word is asked for while ws wait: what is answered, and what waits then
abbrev pub TookWord : Option ℕ → List ℕ → List ℕ → Type 0
TookWord None ws after = (ws ≡ []) × (after ≡ [])
TookWord (Some w) ws after = ws ≡ w ∷ after

-- the next state of the xorshift32 generator: s xor (s << 13), then s xor (s >> 17), then s xor (s << 5), in 32 bits
abbrev pub xor_left : ℕ → ℕ → ℕ
xor_left k s = bit_xor s (s * 2 ^ k % 2 ^ 32)

abbrev pub xor_right : ℕ → ℕ → ℕ
xor_right k s = bit_xor s (s / 2 ^ k)

abbrev pub next_state : ℕ → ℕ
next_state s = xor_left 5 (xor_right 17 (xor_left 13 s))

-- the next n words from the state s: each is the state that follows
abbrev pub words_from : ℕ → ℕ → List ℕ
words_from zero s = []
words_from (suc n) s = next_state s ∷ words_from n (next_state s)

-- the words that wait in a new generator: none with seed 0
abbrev pub generator : ℕ → ℕ → List ℕ
generator seed n = cond (seed == 0) [] (words_from n seed)

-- ---- throws
-- words below this serve a throw with m ways: the largest multiple of m that is at most 2^32
abbrev pub limit : ℕ → ℕ
limit m = 2 ^ 32 / m * m

-- the waiting words from the first one on that serves
abbrev pub serving : ℕ → List ℕ → List ℕ
serving limit [] = []
serving limit (w ∷ ws) = cond (nat_lt w limit) (w ∷ ws) (serving limit ws)

-- the remainder of the first word, and the words after it
abbrev pub remainder : ℕ → List ℕ → Result ℕ Refusal
remainder m [] = Err (refusal 21)
remainder m (w ∷ ws) = Ok (w % m)

abbrev pub rest : List ℕ → List ℕ
rest [] = []
rest (w ∷ ws) = ws

-- a throw has 1 to 10,240,000 ways
abbrev pub in_range : ℕ → Bool
in_range m = nat_le 1 m && nat_le m 10240000

-- what a throw with m ways answers while ws wait, and which words it leaves
abbrev pub thrown : ℕ → List ℕ → Result ℕ Refusal
thrown m ws = cond (in_range m) (remainder m (serving (limit m) ws)) (Err (refusal 20))

abbrev pub left : ℕ → List ℕ → List ℕ
left m ws = cond (in_range m) (rest (serving (limit m) ws)) ws
