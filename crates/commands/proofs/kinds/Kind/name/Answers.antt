use Rattle.std.proofs.Common.{sym, ap}
use Rattle.commands.specs.Kind.{name_of}
use Rattle.commands.proofs.kinds.Kind.name.Goals as goal

pub returns-in-Hmac : goal.returns-in-Hmac
returns-in-Hmac c = ap name_of (sym c.in-Hmac.is)
