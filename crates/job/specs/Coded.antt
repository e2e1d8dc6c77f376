-- Whether a record has a code for each standing square: 255 is the mark of an open one.
use Rattle.std.specs.Prelude.{◌≡◌, ℕ, ◌<◌, true, List, ◌≢◌}
use Rattle.model.specs.Records.{stands, code_in}

-- in a record of n squares
abbrev pub EachCoded : ℕ → List ℕ → Type 0
EachCoded n rec = (s : ℕ) → s < n → stands rec s ≡ true → code_in n rec s ≢ 255
