-- What is read of a run's files, put together.
use Rattle.std.proofs.Common.{◌≡◌, ◌<◌, ◌≤◌, ℕ, List, [], ◌∷◌, suc, length, refl, sym, ◌∙◌, ap, subst, Option, Some, None}
use Rattle.table_model.specs.Tables.{Each}
use Rattle.run_sources.specs.Files.{IsFile, AreFiles}
use Rattle.step_plan.specs.declared.plan.StepLine.{StepLine}
use Rattle.derby.specs.declared.inputs.Inputs.{Inputs}
use Rattle.derby.specs.Inputs.{AreInputs, AreReady}

-- a file each, none of more bytes than a file may have
pub files_length : (told : List ℕ → Option (List ℕ)) (names texts : List (List ℕ)) → AreFiles told names texts → length texts ≡ length names
files_length told [] [] files = refl
files_length told [] (t ∷ ts) files = absurd files
files_length told (n ∷ ns) [] files = absurd files
files_length told (n ∷ ns) (t ∷ ts) files = ap (λ k. suc k) (files_length told ns ts files.1)

pub files_short : (told : List ℕ → Option (List ℕ)) (names texts : List (List ℕ)) → AreFiles told names texts → Each (λ s. length s ≤ 1048576) texts
files_short told [] [] files = tt
files_short told [] (t ∷ ts) files = absurd files
files_short told (n ∷ ns) [] files = absurd files
files_short told (n ∷ ns) (t ∷ ts) files = (files.0.short, files_short told ns ts files.1)

-- inputs that were read are ready for an engine
pub ready : (told : List ℕ → Option (List ℕ)) (plan : List ℕ) (names : List (List ℕ)) (inputs : Inputs) → AreInputs told plan names inputs.scripts inputs.plan.lines → inputs.plan.scripts ≡ length names → AreReady inputs
ready told plan names inputs are known =
    let same = files_length told names inputs.scripts are.files in
    record {
      few = subst (λ (n : ℕ). n ≤ 64) (sym same) are.few;
      short = files_short told names inputs.scripts are.files;
      known = known ∙ sym same;
    }
