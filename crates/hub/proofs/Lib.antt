-- Lemmas on what a hub answers, and on its turns.
mod Tellings
mod Serving
mod Holding
mod Turning
mod Goings
mod Counting
mod Leading
mod Trails
mod DoorTrails
mod PeerTurns
