-- The model that `trial` makes.
use Rattle.std.specs.Prelude.{ℕ, zero, suc, ◌-◌, List, [], ◌++◌, codes}

-- the text so many times, one behind the other
abbrev pub times : ℕ → List ℕ → List ℕ
times zero text = []
times (suc count) text = text ++ times count text

-- what stands in front of the rooms: the controls, a room, an agent, and the beginning of the building
unfoldable pub front : List ℕ
front =
    codes "ctrl Building = 0;\nctrl Closed = 0;\nctrl Room = 0;\natomic ctrl Agent = 1;\natomic ctrl Computer = 1;\natomic ctrl Seat = 2;\n"
    ++ codes "big room = Room.Computer{n};\nbig agent = /a Agent{a};\nbig s = /n Building.("

-- what stands behind the agents: the end of the building, the rules, and the block
unfoldable pub back : List ℕ
back =
    codes ");\nreact sit = Agent{x} | Room.Computer{n} --> Room.Seat{x,n};\nreact shut = Building.id --> Closed.id;\n"
    ++ codes "begin brs\n  init s;\n  rules = [ {sit}, {shut} ];\nend\n"

-- the model of that size, at least 1: a building with so many rooms and so many agents, one beside the other
abbrev pub trial_model : ℕ → List ℕ
trial_model size = front ++ (codes "room" ++ (times (size - 1) (codes " | room") ++ (times size (codes " | agent") ++ back)))
