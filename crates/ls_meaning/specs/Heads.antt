-- The words with which the lines of what is shown begin. None is `no`.
use Rattle.std.specs.Prelude.{codes}
use Rattle.ls_lines.specs.{Text}

-- which word it is
pub data Head : Type 0 where
  Agree : Head
  Answer : Head
  Ask : Head
  Base : Head
  Class : Head
  Cover : Head
  Fringes : Head
  Known : Head
  Learning : Head
  More : Head
  Over : Head
  Path : Head
  Question : Head
  Relation : Head
  Report : Head
  Result : Head
  Safe : Head
  Set : Head
  Settled : Head
  Skills : Head
  State : Head
  Surmise : Head
  Test : Head

-- the word as it is written
abbrev pub head_word : Head → Text
head_word Agree = codes "agree"
head_word Answer = codes "answer"
head_word Ask = codes "ask"
head_word Base = codes "base"
head_word Class = codes "class"
head_word Cover = codes "cover"
head_word Fringes = codes "fringes"
head_word Known = codes "known"
head_word Learning = codes "learning"
head_word More = codes "more"
head_word Over = codes "over"
head_word Path = codes "path"
head_word Question = codes "question"
head_word Relation = codes "relation"
head_word Report = codes "report"
head_word Result = codes "result"
head_word Safe = codes "safe"
head_word Set = codes "set"
head_word Settled = codes "settled"
head_word Skills = codes "skills"
head_word State = codes "state"
head_word Surmise = codes "surmise"
head_word Test = codes "test"
