mod FirstRows
mod FirstCalls
