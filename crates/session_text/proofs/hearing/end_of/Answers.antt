use Rattle.std.proofs.Common.{◌≡◌, ◌∙◌, subst}
use Rattle.sql_commands.specs.Commands.{command_of}
use Rattle.sql_commands.specs.declared.command.Command.{Command}
use Rattle.std.proofs.Common.{Option, None}
use Rattle.sql_forms.specs.Forms.{form_of}
use Rattle.session_model.specs.Orders.{order_from}
use Rattle.session_model.specs.World.{Stage, after_answered}
use Rattle.session_text.specs.Hearing.{stage_of}
use Rattle.session_text.proofs.HearingLemmas.{end_is}
use Rattle.session_text.proofs.hearing.end_of.Goals as goal

pub returns : goal.returns
returns c =
    subst (λ (o : Option Command). stage_of c.end_of_command.result ≡ after_answered (order_from o None) c.args.automatic c.args.first) c.command_of_text.ensures c.end_of_command.ensures
    ∙ end_is (command_of c.args.text.now) (form_of c.args.text.now) c.args.automatic c.args.first
