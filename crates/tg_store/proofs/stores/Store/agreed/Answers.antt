use Rattle.std.proofs.Common.{length, refl, arith}
use Rattle.std.proofs.lemmas.Bool.Decides.{nat_tests}
use Rattle.std.proofs.lemmas.Option.{slice_get_read}
use Rattle.tg_store.proofs.Agreeing.{legal-agreed}
use Rattle.tg_store.proofs.stores.Store.agreed.Goals as goal

pub returns-clause-legal : goal.returns-clause-legal
returns-clause-legal c t =
    let seats = c.args.seats.now in
    let first = c.index-seats-0.result in
    legal-agreed c.args.self.now seats c.requires c.all_kept.ensures (record {
      first = first;
      is_first = slice_get_read seats (length seats) 0 first refl (let e = c.is_empty.ensures in let f = c.if-is_empty.false in grind (arith, nat_tests, e, f)) c.index-seats-0.is;
      same = c.all_same.ensures.0 c.if-not-all_same.false;
      own = c.all_own.ensures.0 t;
    })
