-- Inputs and what is written for them, worked out by hand from ticket 6.
use Rattle.std.specs.Prelude.{ℕ, ◌≡◌, List, [], replicate}
use Rattle.slices.specs.Quoted.{quoted}
use Rattle.channel.specs.Channel.{buffer_size}
use Rattle.joinfeed.specs.Lines.{output}

abbrev pub empty : List ℕ
empty = replicate buffer_size 0

pub record Cases : Type 0 where
  pub nothing : output empty [] ≡ quoted "refused 0\n"
  -- a referee's line in three pieces; the message that closes it stands alone, behind it
  pub pieces : output empty (quoted "134,1,5,c;GOAL \n134,2,6,+;home \n134,3,7,+;1-0\n134,4,8,-;VAR\n") ≡ quoted "16 GOAL home 1-0\n16 VAR\nrefused 0\n"
  -- two facilities interleaved, a late piece and a misshapen one between: both are refused, and what is open stays open
  pub between : output empty (quoted "134,1,5,c;GO\n142,2,5,c;Sco\n134,1,5,+;X\n134,9\n142,3,5,+;rer 9\n134,4,5,+;AL\n142,5,5,-;end\n134,6,5,-;VAR\n")
      ≡ quoted "17 Scorer 9\n17 end\n16 GOAL\n16 VAR\nrefused 2\n"
  -- a newline, a backslash and two bytes above 126 in the pieces: written as a kmsg line has them
  pub escaped : output empty (quoted "134,1,5,c;Jos\\xc3\n134,2,5,+;\\xa9 a\\x5cb\\x0ac\\x2d\n134,3,5,-;\n") ≡ quoted "16 Jos\\xc3\\xa9 a\\x5cb\\x0ac-\n16 \nrefused 0\n"
  -- open at the end: the lowest facility first
  pub closes : output empty (quoted "190,1,5,c;b\n142,2,5,c;a\n134,3,5,+;alone\n") ≡ quoted "16 alone\n17 a\n23 b\nrefused 0\n"
