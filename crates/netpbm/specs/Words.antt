-- The words of a plain PGM, and the numbers that they spell.
use Rattle.std.specs.Prelude.{◌≡◌, ℕ, zero, suc, ◌+◌, ◌-◌, ◌*◌, Bool, cond, ◌&&◌, ◌||◌, List, [], ◌∷◌, length, drop, Some, None, Option, ◌==◌, nat_le, nat_lt}
use Rattle.std.specs.Option.{unwrap_or}
use Rattle.std.specs.List.{prefix_len}

-- space, tab, CR, LF
abbrev pub separator : ℕ → Bool
separator b = b == 32 || (b == 9 || (b == 13 || b == 10))

-- 0 to 9
abbrev pub digit : ℕ → Bool
digit b = nat_le 48 b && nat_le b 57

-- the bytes up to the first separator or the end
abbrev pub word_from : List ℕ → List ℕ
word_from [] = []
word_from (b ∷ bs) = cond (separator b) [] (b ∷ word_from bs)

-- the next word from a position on: where it begins, its bytes, where it ends
abbrev pub start : List ℕ → ℕ → ℕ
start input at = at + prefix_len separator (drop at input)

abbrev pub word : List ℕ → ℕ → List ℕ
word input at = word_from (drop (start input at) input)

abbrev pub stop : List ℕ → ℕ → ℕ
stop input at = start input at + length (word input at)

-- the number that digits spell when they stand behind those of n, and none where there is another byte
abbrev pub spelled : ℕ → List ℕ → Option ℕ
spelled n [] = Some n
spelled n (b ∷ bs) = cond (digit b) (spelled (n * 10 + (b - 48)) bs) None

-- none above 65,535
abbrev pub capped : Option ℕ → Option ℕ
capped None = None
capped (Some n) = cond (nat_le n 65535) (Some n) None

-- the number of the next word, and none where it is missing, malformed or above 65,535
abbrev pub number_at : List ℕ → ℕ → Option ℕ
number_at input at = cond (nat_lt (start input at) (length input)) (capped (spelled 0 (word input at))) None

-- its value, read as 0 where there is none
abbrev pub value_at : List ℕ → ℕ → ℕ
value_at input at = unwrap_or (number_at input at) 0

-- from a position on the next word is a number: its value, the offset of its first digit and the offset behind its last
abbrev pub Spells : List ℕ → ℕ → ℕ → ℕ → ℕ → Type 0
Spells input at value offset end = (number_at input at ≡ Some value) × (offset ≡ start input at) × (end ≡ stop input at)

-- the position behind the first k words that follow the two bytes P2
abbrev pub after : List ℕ → ℕ → ℕ
after input zero = 2
after input (suc k) = stop input (after input k)
