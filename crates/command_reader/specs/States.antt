-- What the tokens so far leave of a command.
use Rattle.std.specs.Prelude.{ℕ, List, [], ◌∷◌, Option, Some, None, Bool, true, false, codes, if◌then◌else◌, ◌&&◌, nat_le, length}
use Rattle.sql_lexer.specs.Bytes.{is_letter}
use Rattle.sql_lexer.specs.declared.token.Token.{Token}
use Rattle.sql_lexer.specs.declared.token.TokenKind.{TokenKind}
use Rattle.sql_lexer.specs.Kinds.{kind_of}
use Rattle.sql_forms.specs.Words.{is_word}
use Rattle.sql_commands.specs.declared.command.Command.{Command}
use Rattle.sql_commands.specs.declared.command.Command.TheVariants.{Commit, Rollback, Autocommit}
use Rattle.sql_commands.specs.Commands.{is_equal_sign, level_in}
use Rattle.command_reader.specs.declared.state.State.{State}
use Rattle.command_reader.specs.declared.state.State.TheVariants.{Start, Ended, Closed, Switching, Setting, Current, Isolating, Leveled}

-- behind the first token
abbrev pub first_of : TokenKind → State
first_of k =
    if is_word (codes "COMMIT") k then Ended Commit
    else if is_word (codes "ROLLBACK") k then Ended Rollback
    else if is_word (codes "AUTOCOMMIT") k then Switching
    else if is_word (codes "SET") k then Setting
    else Closed None

-- behind AUTOCOMMIT and one token more
abbrev pub switch_of : TokenKind → Option Command
switch_of k =
    if is_word (codes "ON") k then Some (Autocommit true)
    else if is_word (codes "OFF") k then Some (Autocommit false)
    else None

-- behind SET and one token more
abbrev pub setting_of : TokenKind → State
setting_of k =
    if is_word (codes "ISOLATION") k then Isolating
    else if is_word (codes "CURRENT") k then Current
    else Closed None

-- behind one token more
abbrev pub after : State → TokenKind → State
after Start k = first_of k
after (Ended c) k = if is_word (codes "WORK") k then Closed (Some c) else Closed None
after (Closed o) k = Closed None
after Switching k = Closed (switch_of k)
after Setting k = setting_of k
after Current k = if is_word (codes "ISOLATION") k then Isolating else Closed None
after Isolating k = Leveled (level_in k) (is_equal_sign k)
after (Leveled o equal) k = Closed (if equal then level_in k else None)

-- the command, if there are no more tokens
abbrev pub told : State → Option Command
told (Ended c) = Some c
told (Closed o) = o
told (Leveled o equal) = o
told _ = None

-- behind all tokens
abbrev pub after_all : State → List Token → State
after_all s [] = s
after_all s (t ∷ ts) = after_all (after s t.kind) ts

-- behind bytes, if they are a token
abbrev pub after_where : Bool → State → List ℕ → State
after_where found s spelling = if found then after s (kind_of spelling) else s

-- the spelling of an unquoted name
abbrev pub spells_name : List ℕ → Bool
spells_name [] = false
spells_name (b ∷ rest) = is_letter b && nat_le (length (b ∷ rest)) 128
