-- The first words of event lines (this project's format).
use Rattle.std.specs.Prelude.{ℕ, List, codes}

-- what the first word of an event line says
pub data Kind : Type 0 where
  Start : Kind
  Found : Kind
  Join : Kind
  Tick : Kind
  Deliver : Kind
  Leave : Kind
  Down : Kind
  Offer : Kind
  Stop : Kind

abbrev pub kind_name : Kind → List ℕ
kind_name Start = codes "start"
kind_name Found = codes "found"
kind_name Join = codes "join"
kind_name Tick = codes "tick"
kind_name Deliver = codes "deliver"
kind_name Leave = codes "leave"
kind_name Down = codes "down"
kind_name Offer = codes "offer"
kind_name Stop = codes "stop"
