-- The fields of a line.
use Rattle.std.specs.Prelude.{ℕ, Bool, cond, ◌||◌, List, [], ◌∷◌, ◌++◌, ◌==◌}

-- Blanks: the space, the tab, and what ends a line, which is a line feed, on some systems behind a carriage return.
abbrev pub blank : ℕ → Bool
blank byte = byte == 32 || byte == 9 || byte == 10 || byte == 13

-- A run of bytes has ended: it is a field, unless it is empty.
abbrev pub ended : List ℕ → List (List ℕ)
ended [] = []
ended (b ∷ bs) = (b ∷ bs) ∷ []

-- The fields of what is left of a line, behind a run of bytes that has not ended yet.
abbrev pub fields_behind : List ℕ → List ℕ → List (List ℕ)
fields_behind run [] = ended run
fields_behind run (b ∷ bs) = cond (blank b) (ended run ++ fields_behind [] bs) (fields_behind (run ++ b ∷ []) bs)

-- The fields of a line, in order: its longest runs of bytes that are no blanks.
abbrev pub fields_of : List ℕ → List (List ℕ)
fields_of line = fields_behind [] line
