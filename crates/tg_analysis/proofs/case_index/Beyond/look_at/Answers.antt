use Rattle.std.proofs.Common.{length, get_or, ◌<◌, sym, subst, ◌∙◌, arith}
use Rattle.std.proofs.lemmas.Option.{slice_get_within, slice_get-get_or}
use Rattle.tg_index.specs.declared.by_target.Held.{Held}
use Rattle.tg_analysis.proofs.Claims.{no_entry}
use Rattle.tg_analysis.proofs.LookedIslands.{all-looked-more}
use Rattle.tg_analysis.proofs.case_index.Beyond.look_at.Goals as goal

pub loop-entry-preserved : goal.loop-entry-preserved
loop-entry-preserved c =
    let entries = c.args.entries.now in
    let index = c.loop-entry.entry-index in
    let entry : Held = get_or entries index no_entry in
    let here = slice_get-get_or entries index no_entry c.loop-entry-test.true in
    let before = c.loop-entry.invariant in
    let looks = c.look.ensures in
    record {
      looked = all-looked-more entries index (length c.args.self.now.places.items) entry c.loop-entry.self.looked.items c.look.new.self.looked.items here before.looked looks.kept (λ low. looks.looked (subst (λ n. entry.number < n) (sym before.places) low));
      len = looks.len ∙ before.len;
      places = looks.places ∙ before.places;
      has = λ numbers members has. looks.has numbers members (before.has numbers members has);
    }

pub returns-clause-looked : goal.returns-clause-looked
returns-clause-looked c = λ place entry h within.
    let end = c.loop-entry-test.false in
    c.loop-entry.invariant.looked place entry (let low = slice_get_within c.args.entries.now place entry h in omega arith) h within
