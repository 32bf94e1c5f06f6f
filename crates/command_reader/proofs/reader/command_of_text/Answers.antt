use Rattle.std.proofs.Common.{◌≡◌, ◌+◌, refl, sym, ap, ◌∙◌, arith}
use Rattle.std.proofs.lemmas.List.{take_rest}
use Rattle.command_reader.proofs.StateLemmas.{byte_step, last_token, begun_more, is_command, reads_command}
use Rattle.sql_lexer.specs.Tokens.{tokens_of}
use Rattle.command_reader.proofs.reader.command_of_text.Goals as goal

pub loop-i-init : goal.loop-i-init
loop-i-init c = record { tokens = reads_command (tokens_of c.args.text.now); begun = omega arith }

pub loop-i-preserved : goal.loop-i-preserved
loop-i-preserved c = record {
  tokens = byte_step c.loop-i.state c.after_part-state.result c.args.text.now _ c.loop-i.reading c.after-reading.result c.loop-i.from c.begin-from.result c.loop-i.i _ c.ends.result _
      c.loop-i-test.true refl (take_rest c.args.text.now (c.loop-i.i + 1)) c.begin-from.ensures c.ends.ensures c.after_part-state.ensures c.after-reading.ensures c.loop-i.invariant.tokens;
  begun = begun_more c.loop-i.reading c.loop-i.from c.begin-from.result c.loop-i.i c.begin-from.ensures c.loop-i.invariant.begun;
}

pub returns : goal.returns
returns c =
    let h = last_token c.loop-i.state c.args.text.now c.loop-i.reading c.loop-i.from c.loop-i.i _ (omega arith) c.loop-i.invariant.tokens in
    is_command c.args.text.now c.told.result cc
