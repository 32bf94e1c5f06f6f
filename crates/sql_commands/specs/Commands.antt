-- The command that a text spells, if it spells one.
use Rattle.std.specs.Prelude.{ℕ, List, [], ◌∷◌, Option, Some, None, Bool, true, false, codes, if◌then◌else◌}
use Rattle.dby_types.specs.declared.number.Level.TheVariants.{Ur, Cs, Rs, Rr}
use Rattle.sql_lexer.specs.Tokens.{tokens_of}
use Rattle.sql_lexer.specs.declared.token.Token.{Token}
use Rattle.sql_lexer.specs.declared.token.TokenKind.{TokenKind}
use Rattle.sql_lexer.specs.declared.token.TokenKind.TheVariants as kind
use Rattle.sql_lexer.specs.declared.token.Sign.TheVariants as sign
use Rattle.sql_forms.specs.Words.{is_word}
use Rattle.sql_commands.specs.declared.command.Command.{Command}
use Rattle.sql_commands.specs.declared.command.Command.TheVariants.{Commit, Rollback, Autocommit, SetIsolation}

abbrev pub is_equal_sign : TokenKind → Bool
is_equal_sign (kind.Sign sign.Equal) = true
is_equal_sign _ = false

-- a command with no more than WORK behind it
abbrev pub ended : Command → List Token → Option Command
ended c [] = Some c
ended c (work ∷ []) = if is_word (codes "WORK") work.kind then Some c else None
ended c _ = None

-- behind AUTOCOMMIT: ON or OFF
abbrev pub switched : List Token → Option Command
switched (t ∷ []) =
    if is_word (codes "ON") t.kind then Some (Autocommit true)
    else if is_word (codes "OFF") t.kind then Some (Autocommit false)
    else None
switched _ = None

-- UR, CS, RS or RR
abbrev pub level_in : TokenKind → Option Command
level_in k =
    if is_word (codes "UR") k then Some (SetIsolation Ur)
    else if is_word (codes "CS") k then Some (SetIsolation Cs)
    else if is_word (codes "RS") k then Some (SetIsolation Rs)
    else if is_word (codes "RR") k then Some (SetIsolation Rr)
    else None

-- behind SET [CURRENT] ISOLATION: ["="] and a level
abbrev pub leveled : List Token → Option Command
leveled (level ∷ []) = level_in level.kind
leveled (equal ∷ level ∷ []) = if is_equal_sign equal.kind then level_in level.kind else None
leveled _ = None

-- behind SET CURRENT
abbrev pub current_set : List Token → Option Command
current_set (t ∷ ts) = if is_word (codes "ISOLATION") t.kind then leveled ts else None
current_set [] = None

-- behind SET
abbrev pub level_set : List Token → Option Command
level_set (t ∷ ts) =
    if is_word (codes "ISOLATION") t.kind then leveled ts
    else if is_word (codes "CURRENT") t.kind then current_set ts
    else None
level_set [] = None

abbrev pub command_in : List Token → Option Command
command_in (t ∷ ts) =
    if is_word (codes "COMMIT") t.kind then ended Commit ts
    else if is_word (codes "ROLLBACK") t.kind then ended Rollback ts
    else if is_word (codes "AUTOCOMMIT") t.kind then switched ts
    else if is_word (codes "SET") t.kind then level_set ts
    else None
command_in [] = None

-- the command of a text
unfoldable pub command_of : List ℕ → Option Command
command_of text = command_in (tokens_of text)
