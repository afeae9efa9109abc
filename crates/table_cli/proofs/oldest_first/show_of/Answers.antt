use Rattle.std.proofs.Common.{refl, inl, inr}
use Rattle.table_texts.specs.declared.message.Message.TheVariants.{OutOfMemory}
use Rattle.table_cli.proofs.oldest_first.show_of.Goals as goal

pub returns : goal.returns
returns g c = inr (OutOfMemory, inl refl, refl)
