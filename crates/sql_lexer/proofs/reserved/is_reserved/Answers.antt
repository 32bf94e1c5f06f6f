use Rattle.std.proofs.Common.{◌∙◌, arith}
use Rattle.sql_lexer.proofs.ReservedLemmas.{is_reserved_word-none, is_reserved_word-two, is_reserved_word-three, is_reserved_word-four, is_reserved_word-five, is_reserved_word-six, is_reserved_word-seven, is_reserved_word-eight}
use Rattle.sql_lexer.proofs.reserved.is_reserved.Goals as goal

pub returns-in-2 : goal.returns-in-2
returns-in-2 c = c.is_of_two.ensures ∙ is_reserved_word-two c.args.word.now c.in-2.is

pub returns-in-3 : goal.returns-in-3
returns-in-3 c = c.is_of_three.ensures ∙ is_reserved_word-three c.args.word.now c.in-3.is

pub returns-in-4 : goal.returns-in-4
returns-in-4 c = c.is_of_four.ensures ∙ is_reserved_word-four c.args.word.now c.in-4.is

pub returns-in-5 : goal.returns-in-5
returns-in-5 c = c.is_of_five.ensures ∙ is_reserved_word-five c.args.word.now c.in-5.is

pub returns-in-6 : goal.returns-in-6
returns-in-6 c = c.is_of_six.ensures ∙ is_reserved_word-six c.args.word.now c.in-6.is

pub returns-in-7 : goal.returns-in-7
returns-in-7 c = c.is_of_seven.ensures ∙ is_reserved_word-seven c.args.word.now c.in-7.is

pub returns-in-8 : goal.returns-in-8
returns-in-8 c = c.is_of_eight.ensures ∙ is_reserved_word-eight c.args.word.now c.in-8.is

pub returns-in_default : goal.returns-in_default
returns-in_default c =
    is_reserved_word-none c.args.word.now (omega arith) (omega arith) (omega arith) (omega arith) (omega arith)
    (omega arith) (omega arith)
