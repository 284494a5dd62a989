use Rattle.std.proofs.Common.{Some, refl}
use Rattle.lifecycle.specs.Journal.{board_of}
use Rattle.lifecycle.specs.Lived.{bench}
use Rattle.lifecycle.proofs.Grown.{keeps_law, moved, noted}
use Rattle.law.proofs.Kept.{law}
use Rattle.lifecycle.proofs.life.Life.perform.Goals as goal

pub returns : goal.returns
returns g c =
    let p = moved _ _ _ _ _ _ _ _ _ _ _ _ _ _ _ _ _ c.replace-board.ensures.value c.replace.ensures.after c.in-Some.is c.step-board.ensures.made in
    let n = noted _ _ _ _ _ _ _ _ _ _ _ _ _ _ c.reserve.ensures.items refl refl c.of-standing.ensures c.replace.ensures.after c.shown-shown.ensures c.push_reserved.ensures.items in
    record {
      life = record {
        lawful = λ l. keeps_law _ _ _ _ _ _
            (bench (board_of c.args.self.now.board) (g.S.Store.medium c.args.self.now.store) (g.K.Authenticator.state c.args.self.now.authenticator) c.args.scratch.now c.args.register.now)
            (bench (board_of c.replace.new.dest) (g.S.Store.medium c.step-board.new.store) (g.K.Authenticator.state c.step-board.new.authenticator) c.step-board.new.scratch c.step-board.new.register)
            c.args.call (Some c.in-Some.answer) (law _ _) c.step-board.ensures.key p n l;
        same_key = c.step-board.ensures.key;
        same_factory = refl;
      };
      made = (p, n);
    }
