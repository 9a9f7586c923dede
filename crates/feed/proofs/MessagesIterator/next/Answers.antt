-- An item is the first message of what is left, and leaves the others.
use Rattle.std.proofs.Common.{◌≡◌, ◌∷◌, ◌<◌, length, ap, arith, rules}
use Rattle.std.proofs.lemmas.Bool.Decides.{nat_tests}
use Rattle.feed.specs.Feed.{messages}
use Rattle.feed.proofs.GroupLaws.{message-inside, messages-step}
use Rattle.feed.proofs.MessagesIterator.next.Goals.{After-split_at}
use Rattle.feed.proofs.MessagesIterator.next.Goals as goal

pub split_at-requires : goal.split_at-requires
split_at-requires c =
    let some : 0 < length c.args.self.now.0.now = grind (arith, nat_tests) in
    omega (arith, (message-inside c.args.self.now.0.now some).within)

first : (c : After-split_at) → messages c.args.self.now.0.now ≡ c.split_at.result.0.now ∷ messages c.split_at.result.1.now
first c =
    let some : 0 < length c.args.self.now.0.now = grind (arith, nat_tests) in
    messages-step c.args.self.now.0.now some c.message_length.ensures c.split_at.ensures.front c.split_at.ensures.back

pub returns-clause-steps : goal.returns-clause-steps
returns-clause-steps c = first (goal.at.returns-clause-steps c).After-split_at

pub returns-clause-goes : goal.returns-clause-goes
returns-clause-goes c =
    let e = ap length (first (goal.at.returns-clause-goes c).After-split_at) in
    record { on = λ w. (tt, tt, omega arith); keeps = search rules; rests = search rules }
