-- What rules do in turn, and the lines of their replies.
use Rattle.std.specs.Prelude.{ℕ, List, [], ◌∷◌, ◌++◌, decimal, Option, Some, None}
use Rattle.tg_graph.specs.declared.rules.Refusal.{Refusal}
use Rattle.tg_graph.specs.declared.session.Reply.{Reply}
use Rattle.tg_graph.specs.declared.session.Reply.TheVariants.{Done, Refused}
use Rattle.tg_graph.specs.Graphs.{ProtectionGraph}
use Rattle.tg_graph.specs.Rules.{refusal_of, after}
use Rattle.tg_text.specs.declared.rule_text.RuleLine.{RuleLine}
use Rattle.tg_words.specs.Spelling.{reply_words, line_of}

-- the line of a reply, after the number of the rule's own line
abbrev pub reply_line : ℕ → Reply → List ℕ
reply_line n reply = line_of (decimal n ∷ reply_words reply)

-- what rules do in turn, up to the first that is refused
pub record Played : Type 0 where
  pub replies : List ℕ
  pub end : ProtectionGraph
  pub status : ℕ

-- an accepted rule comes first
abbrev pub onto_played : List ℕ → Played → Played
onto_played reply rest = record { replies = reply ++ rest.replies; end = rest.end; status = rest.status }

abbrev pub played_first : ProtectionGraph → ℕ → Option Refusal → Played → Played
played_first g n None rest = onto_played (reply_line n Done) rest
played_first g n (Some refusal) rest = record { replies = reply_line n (Refused refusal); end = g; status = 1 }

abbrev pub played : ProtectionGraph → List RuleLine → Played
played g [] = record { replies = []; end = g; status = 0 }
played g (r ∷ rs) = played_first g r.line (refusal_of g r.rule) (played (after g r.rule) rs)
