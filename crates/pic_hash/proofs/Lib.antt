mod Messages
