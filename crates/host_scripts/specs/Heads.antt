-- What the code keeps of a header.
use Rattle.host_scripts.specs.declared.header.ScriptHeader.{ScriptHeader}
use Rattle.host_scripts.specs.Reading.{Head}

-- what a header in memory says
abbrev pub head_of : ScriptHeader → Head
head_of h = record { version = h.version; geometry = h.geometry; buffer = h.buffer; maxima = h.maxima; mode = h.mode; seed = h.seed; hosts = h.hosts }
