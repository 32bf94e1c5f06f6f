-- The words of the program's call.
use Rattle.std.specs.Prelude.{◌≡◌, ◌≢◌, ℕ, List, [], ◌∷◌, Option, Some, None, codes, map, string_bytes}
use Rattle.program_words.specs.declared.words.StepWords.{StepWords}

-- a word that isn't empty and doesn't begin with a dash
abbrev pub IsName : List ℕ → Type 0
IsName [] = ⊥
IsName (b ∷ bs) = b ≡ 45 → ⊥

abbrev pub AreNames : List (List ℕ) → Type 0
AreNames [] = Unit {0}
AreNames (word ∷ words) = IsName word × AreNames words

-- step DB PLAN S1 .. Sn, of names, with n at least 1
abbrev pub HasForm : List (List ℕ) → Type 0
HasForm (step ∷ db ∷ plan ∷ script ∷ scripts) = (step ≡ codes "step") × IsName db × IsName plan × AreNames (script ∷ scripts)
HasForm _ = ⊥

-- WHAT READING THE WORDS ANSWERS: what stands at each place of the form; None exactly where they don't have it
abbrev pub ReadsWords : List (List ℕ) → Option StepWords → Type 0
ReadsWords words None = HasForm words → ⊥
ReadsWords words (Some w) = HasForm words × (words ≡ codes "step" ∷ w.database.now ∷ w.plan.now ∷ map string_bytes w.scripts.now)
