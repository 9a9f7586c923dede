-- The claim: in every row of each table the definitions give what document 01 says.
use Rattle.moments.specs.Case.{AllAgree}
use Rattle.moments.specs.Table.{TableAgrees}
use Rattle.moments.specs.Refusals.{refusals}
use Rattle.moments.specs.Pages.{pages}
use Rattle.moments.specs.Bytes.{stored}
use Rattle.moments.specs.Pairs.{together}
use Rattle.moments.specs.Console.{levels}
use Rattle.moments.specs.Lines.{sheets}
use Rattle.moments.specs.Fragments.{fragments}
use Rattle.moments.specs.Callers.{callers}

pub record Claim : Type 0 where
  -- T1 to T16
  pub moments : TableAgrees
  -- each number of "When the log says no", and 1 to 10
  pub refused : AllAgree refusals
  pub others : AllAgree pages
  -- start place and bytes that writes leave
  pub bytes : AllAgree stored
  -- two refusals at once
  pub pairs : AllAgree together
  -- the console level over off and on, and the minimum (document 02, ticket 4)
  pub console : AllAgree levels
  -- each line of a text with its prefix (document 02, ticket 5)
  pub syslog : AllAgree sheets
  -- writes that say they are fragments (document 02, ticket 6)
  pub flags : AllAgree fragments
  -- a caller in every record (document 02, ticket 7)
  pub caller : AllAgree callers
